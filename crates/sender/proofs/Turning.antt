-- From checks to calls: a check made of checks, one after the other, says what the first of them says that refuses; and 63 at a step is 63 of a call
-- that goes on from there. Assumes nothing.
use Prim.Native.Nat.{◌-◌, ◌^◌, ◌≤◌}
use mathlib.Core.Path.{◌≡◌, refl, sym, ap, ◌∙◌}
use mathlib.Core.List.{List, ◌++◌}
use mathlib.Core.Bool.{Bool, true, false, cond}
use native.Mathlib.Omega.{arith}
use borrow.Author.Tests.{ltb-true, lt-ltb}
use lib.Dec.{ltb}
use Rattle.std.specs.Prelude.{Option, Result, Some, None, Ok, Err, IfOk, IsErrAnd}
use Rattle.std.specs.Option.{ok_or}
use Rattle.tsar.specs.Numbers.{validated_by}
use Rattle.tsar.specs.Rows.{Refusal, refusal, refusal_append, or_else}
use Rattle.tsar.specs.declared.Error.{Error}
use Rattle.sender.specs.declared.SenderError.{SenderError}
use Rattle.sender.specs.declared.SenderError.TheVariants.{Codec, Tickets}
use Rattle.sender.specs.declared.Outline.{Outline}
use Rattle.sender.specs.declared.Progress.{Progress}
use Rattle.sender.specs.declared.Turned.{Turned}
use Rattle.sender.specs.declared.course.Course.{Course}
use Rattle.sender.specs.Numbers.{sender_number}
use Rattle.sender.specs.Calls.{Turn, or_tickets}
use Rattle.sender.specs.Says.{turned_by, checked_by}
use Rattle.sender.specs.Tickets.{within}

-- the course of a check that passes is the outline's
pub course_is : (k : Result Course SenderError) (x : Course) (o : Outline) → IfOk k (λ y. y.outline ≡ o) → k ≡ Ok x → x.outline ≡ o
course_is k x o h p = rw p at h

module _ (cs ds : List (Bool × Refusal)) where
  -- the rows in front refuse
  pub refused_first : {T U : Type 0} (k : Result T SenderError) (e : SenderError) (r : Result U SenderError) → checked_by k ≡ refusal cs → k ≡ Err e → IsErrAnd r (λ y. y ≡ e) → checked_by r ≡ refusal (cs ++ ds)
  refused_first k e (Ok x) s q h = absurd h
  refused_first k e (Err y) s q h = ap (λ (z : SenderError). Some (sender_number z)) h ∙ ap (λ (o : Option Refusal). or_else o (refusal ds)) (sym (ap checked_by q) ∙ s) ∙ sym (refusal_append cs ds)

  -- so the codec's
  pub codec_first : {U : Type 0} (k : Result Unit Error) (e : Error) (r : Result U SenderError) → validated_by k ≡ refusal cs → k ≡ Err e → IsErrAnd r (λ y. y ≡ Codec e) → checked_by r ≡ refusal (cs ++ ds)
  codec_first k e (Ok x) s q h = absurd h
  codec_first k e (Err y) s q h = ap (λ (z : SenderError). Some (sender_number z)) h ∙ ap (λ (o : Option Refusal). or_else o (refusal ds)) (sym (ap validated_by q) ∙ s) ∙ sym (refusal_append cs ds)

  -- they pass
  pub passed_first : refusal cs ≡ None → refusal ds ≡ refusal (cs ++ ds)
  passed_first e = ap (λ (o : Option Refusal). or_else o (refusal ds)) (sym e) ∙ sym (refusal_append cs ds)

-- ---- a step that has no ticket

over : (q : Progress) → None ≡ within q → ltb (2 ^ 64 - 1) q.last_ticket ≡ true
over q e = go (ltb (2 ^ 64 - 1) q.last_ticket) e
  where
    go : (b : Bool) → None ≡ cond b None (Some q) → b ≡ true
    go true e = refl
    go false e = cc

pub none_exit : (p q : Progress) (t : Turn) (m : Option Progress) (e : SenderError) (r : Result Turned SenderError) → m ≡ within q → ok_or m Tickets ≡ Err e → IsErrAnd r (λ y. y ≡ e) → q.last_ticket ≤ t.progress.last_ticket → turned_by p r ≡ or_tickets p t
none_exit p q t m e (Ok x) s o h l = absurd h
none_exit p q t (Some x) e (Err y) s o h l = cc
none_exit p q t None e (Err y) s o h l =
    let z : e ≡ Tickets = cc in
    let g = ltb-true (2 ^ 64 - 1) q.last_ticket (over q s) in
    rw (h, z, lt-ltb (2 ^ 64 - 1) t.progress.last_ticket (omega arith))
