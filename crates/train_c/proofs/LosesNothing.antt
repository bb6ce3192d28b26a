-- A train loses nothing: it ends where `Ends` says among the steps of its segments, and a caller has of it what `Kept` says, for any
-- receiver, store, output and segments. Assumes nothing.
use mathlib.Core.Path.{◌≡◌, refl, sym, ap, ap₂, subst, ◌∙◌}
use mathlib.Core.Bool.{Bool, true, false, cond, not, true≢false}
use mathlib.Core.List.{List, [], ◌∷◌, ◌++◌}
use Rattle.std.specs.Prelude.{Some, None}
use Prim.Native.Nat.{ℕ, zero, suc, ◌+◌, ◌-◌, ◌≤◌, ◌<◌}
use native.Mathlib.Nat.{zero-add}
use native.Mathlib.Omega.{arith}
use lib.ListN.{length, get_or, take, drop, length-append, get_or-append}
use lib.Seq.{take-length, take-append_seam, take-append-le, take-append-add, get_or-append_seam}
use Rattle.link.specs.declared.MobileIdentity.{MobileIdentity}
use Rattle.link.specs.declared.HigherLayerProtocol.{HigherLayerProtocol}
use Rattle.receiver.specs.declared.Receiver.{Receiver}
use Rattle.receiver.specs.Record.{taking}
use Rattle.receiver.specs.Answers.{Answer, refused, answered, Step}
use Rattle.codec_c.specs.Codes.{code_of}
use Rattle.train_c.specs.Walk.{Train, train, start_of, train_step, train_of, after}
use Rattle.train_c.specs.Singly.{steps_of, last_of, Empty, AllEmpty, Ends, all, behind, at, Kept, LosesNothing}
use Rattle.train_c.proofs.Numbered.{refused_code}

add_0 : (k : ℕ) → k ≡ k + 0
add_0 k = omega arith

one_more : (k : ℕ) → k + 1 ≡ k + (0 + 1)
one_more k = omega arith

-- a step that carries nothing comes first
first : {k : ℕ} {r : Receiver} {store output : List ℕ} {steps : List Step} {t : Train} (s : Step) → Empty s → Ends (k + 1) s.receiver s.store s.output steps t → Ends k r store output (s ∷ steps) t
first {k} {r} {store} {output} {steps} {t} s h (all a e) =
    let n : k + 1 + length steps ≡ k + suc (length steps) = omega arith in
    all (h, a)
    (e ∙ ap (λ (n : ℕ). train 0 (last_of r (λ s. s.receiver) (s ∷ steps)) (last_of store (λ s. s.store) (s ∷ steps)) (last_of output (λ s. s.output) (s ∷ steps)) n None None) n)
first {k} {r} {store} {output} {steps} {t} s h (behind before s' rest x m p a q b e) =
    let n : k + 1 + (length before + 1) ≡ k + (suc (length before) + 1) = omega arith in
    behind (s ∷ before) s' rest x m (ap (λ (l : List Step). s ∷ l) p) (h, a) q b (e ∙ ap (λ (n : ℕ). train 0 s'.receiver s'.store s'.output n x m) n)
first {k} {r} {store} {output} {steps} {t} s h (at before s' rest n p a q c e) =
    let i : k + 1 + length before ≡ k + suc (length before) = omega arith in
    at (s ∷ before) s' rest n (ap (λ (l : List Step). s ∷ l) p) (h, a) q c (e ∙ ap (λ (i : ℕ). train (code_of n) s'.receiver s'.store s'.output i None None) i)

module _ (peer : MobileIdentity) (protocol : HigherLayerProtocol) (reading : ℕ) where
  pub ends_from : (l : List (List ℕ)) (k : ℕ) (r : Receiver) (store output : List ℕ)
      → Ends k r store output (steps_of peer protocol reading l r store output) (train_of peer protocol reading l (train 0 r store output k None None))
  unfolding train_of steps_of
  ends_from [] k r store output = all tt (ap (λ (n : ℕ). train 0 r store output n None None) (add_0 k))
  ends_from (octets ∷ rest) k r store output =
      let s = train_step peer protocol reading r octets store output in
      turn s (steps_of peer protocol reading rest s.receiver s.store s.output) (train_of peer protocol reading rest) s.answer refl
      (λ n e. refused_code peer protocol reading r octets store output n e) (ends_from rest (k + 1) s.receiver s.store s.output)
    where
      turn : (s : Step) (steps : List Step) (go : Train → Train) (a : Answer) → s.answer ≡ a → ((n : ℕ × ℕ) → s.answer ≡ refused n → 256 ≤ code_of n)
          → Ends (k + 1) s.receiver s.store s.output steps (go (train 0 s.receiver s.store s.output (k + 1) None None))
          → Ends k r store output (s ∷ steps) (after go (train 0 r store output k None None) a s.receiver s.store s.output)
      turn s steps go (refused n) e c h =
          at [] s steps n refl tt e (c n e) (ap (λ (i : ℕ). train (code_of n) s.receiver s.store s.output i None None) (add_0 k))
      turn s steps go (answered (Some x) m) e c h =
          behind [] s steps (Some x) m refl tt e (λ h. let p = sym e ∙ h.nothing in let z : ◌≡◌ {A = ℕ} 0 1 = cc in omega arith) (ap (λ (i : ℕ). train 0 s.receiver s.store s.output i (Some x) m) (one_more k))
      turn s steps go (answered None (Some m)) e c h =
          behind [] s steps None (Some m) refl tt e (λ h. let p = sym e ∙ h.nothing in let z : ◌≡◌ {A = ℕ} 0 1 = cc in omega arith) (ap (λ (i : ℕ). train 0 s.receiver s.store s.output i None (Some m)) (one_more k))
      turn s steps go (answered None None) e c h = onward (taking s.receiver.progress.state) refl
        where
          onward : (b : Bool) → taking s.receiver.progress.state ≡ b
              → Ends k r store output (s ∷ steps)
              (cond (not b) (train 0 s.receiver s.store s.output (k + 1) None None) (go (train 0 s.receiver s.store s.output (k + 1) None None)))
          onward true q = first s (record { nothing = e; takes = q }) h
          onward false q = behind [] s steps None None refl tt e (λ h. true≢false (sym h.takes ∙ q)) (ap (λ (i : ℕ). train 0 s.receiver s.store s.output i None None) (one_more k))

-- ---- what a caller has of it

never : {a b : ℕ} → 256 ≤ a → b ≡ a → b ≡ 0 → ⊥
never h e z = omega (arith, h, e, z)

all_take : (n : ℕ) (l : List Step) → AllEmpty l → AllEmpty (take n l)
all_take zero l a = tt
all_take (suc n) [] a = tt
all_take (suc n) (s ∷ l) a = (a.0, all_take n l a.1)

empty_at : (l : List Step) (i : ℕ) (d : Step) → AllEmpty l → i < length l → (get_or l i d).answer ≡ answered None None
empty_at [] i d a h = let z : ⊥ = omega arith in absurd z
empty_at (s ∷ l) zero d a h = a.0.nothing
empty_at (s ∷ l) (suc i) d a h = empty_at l i d a.1 (omega arith)

last_append : {A : Type 0} (a : A) (f : Step → A) (l : List Step) (s : Step) → last_of a f (l ++ s ∷ []) ≡ f s
last_append a f [] s = refl
last_append a f (x ∷ l) s = last_append (f x) f l s

module _ (peer : MobileIdentity) (protocol : HigherLayerProtocol) (reading : ℕ) where
  -- the steps behind the first n are those of the segments behind them, from what the n left
  steps_drop : (n : ℕ) (l : List (List ℕ)) (r : Receiver) (store output : List ℕ)
      → drop n (steps_of peer protocol reading l r store output)
      ≡ steps_of peer protocol reading (drop n l) (last_of r (λ s. s.receiver) (take n (steps_of peer protocol reading l r store output)))
      (last_of store (λ s. s.store) (take n (steps_of peer protocol reading l r store output))) (last_of output (λ s. s.output) (take n (steps_of peer protocol reading l r store output)))
  unfolding steps_of
  steps_drop zero l r store output = refl
  steps_drop (suc n) [] r store output = refl
  steps_drop (suc n) (octets ∷ l) r store output =
      let s = train_step peer protocol reading r octets store output in
      steps_drop n l s.receiver s.store s.output

  module _ (l : List (List ℕ)) (r : Receiver) (store output : List ℕ) (t : Train) where
    abbrev steps : List Step
    steps = steps_of peer protocol reading l r store output

    onward_by : t.receiver ≡ last_of r (λ s. s.receiver) (take t.received steps) → t.store ≡ last_of store (λ s. s.store) (take t.received steps)
        → t.output ≡ last_of output (λ s. s.output) (take t.received steps)
        → steps_of peer protocol reading (drop t.received l) t.receiver t.store t.output ≡ drop t.received steps
    onward_by a b c =
        ap (λ (x : Receiver). steps_of peer protocol reading (drop t.received l) x t.store t.output) a
        ∙ ap₂ (λ (x y : List ℕ). steps_of peer protocol reading (drop t.received l) (last_of r (λ s. s.receiver) (take t.received steps)) x y) b c
        ∙ sym (steps_drop t.received l r store output)

    -- a train of code 0 whose received segments are some steps, all but the last of which are empty, and whose last left what it leaves
    kept_done : (n : ℕ) → t.received ≡ n → n ≤ length steps → (0 < length steps → 0 < n) → AllEmpty (take (n - 1) steps)
        → ((i : ℕ) (d : Step) → i + 1 ≡ n → (get_or steps i d).answer ≡ answered t.response t.message) → t.code ≡ 0
        → t.receiver ≡ last_of r (λ s. s.receiver) (take n steps) → t.store ≡ last_of store (λ s. s.store) (take n steps) → t.output ≡ last_of output (λ s. s.output) (take n steps)
        → Kept peer protocol reading l r store output steps t
    kept_done n e h f a g z p q o =
        let p' : t.receiver ≡ last_of r (λ s. s.receiver) (take t.received steps) = p ∙ ap (λ (k : ℕ). last_of r (λ s. s.receiver) (take k steps)) (sym e) in
        let q' : t.store ≡ last_of store (λ s. s.store) (take t.received steps) = q ∙ ap (λ (k : ℕ). last_of store (λ s. s.store) (take k steps)) (sym e) in
        let o' : t.output ≡ last_of output (λ s. s.output) (take t.received steps) = o ∙ ap (λ (k : ℕ). last_of output (λ s. s.output) (take k steps)) (sym e) in
        record {
          there = omega (arith, e, h);
          before = subst (λ (k : ℕ). AllEmpty (take (k - 1) steps)) (sym e) a;
          last = λ i d x. g i d (x ∙ e);
          receiver_left = λ c. p';
          store_left = λ c. q';
          output_left = λ c. o';
          onward = λ c. onward_by p' q' o';
          moves = λ c d. subst (λ (k : ℕ). 0 < k) (sym e) (f d);
          beside = λ c. let x : ⊥ = omega (arith, c, z) in absurd x;
        }

    kept : Ends 0 r store output steps t → Kept peer protocol reading l r store output steps t
    kept (all a e) =
        let n : t.received ≡ length steps = ap (λ (x : Train). x.received) e ∙ zero-add (length steps) in
        let w : take (length steps) steps ≡ steps = take-length steps in
        kept_done (length steps) n (omega arith) (λ h. h) (all_take (length steps - 1) steps a)
        (λ i d x. empty_at steps i d a (omega (arith, x)) ∙ ap₂ answered (sym (ap (λ (x : Train). x.response) e)) (sym (ap (λ (x : Train). x.message) e))) (ap (λ (x : Train). x.code) e)
        (ap (λ (x : Train). x.receiver) e ∙ ap (last_of r (λ s. s.receiver)) (sym w)) (ap (λ (x : Train). x.store) e ∙ ap (last_of store (λ s. s.store)) (sym w))
        (ap (λ (x : Train). x.output) e ∙ ap (last_of output (λ s. s.output)) (sym w))
    kept (behind before s rest x m p a q b e) =
        let n : t.received ≡ length before + 1 = ap (λ (x : Train). x.received) e ∙ zero-add (length before + 1) in
        let k : length steps ≡ length before + suc (length rest) = ap length p ∙ length-append before (s ∷ rest) in
        let one : length before + 1 - 1 ≡ length before = omega arith in
        let w : take (length before + 1) steps ≡ before ++ s ∷ [] = ap (take (length before + 1)) p ∙ take-append-add before (s ∷ rest) 1 in
        let front : take (length before + 1 - 1) steps ≡ before = ap₂ take one p ∙ take-append_seam before (s ∷ rest) in
        kept_done (length before + 1) n (omega (arith, k)) (λ h. omega arith) (subst AllEmpty (sym front) a)
        (λ i d y.
        let j : i ≡ length before = omega (arith, y) in
        ap (λ (v : Step). v.answer) (ap₂ (λ (u : List Step) (i : ℕ). get_or u i d) p j ∙ get_or-append_seam before s rest d) ∙ q
        ∙ ap₂ answered (sym (ap (λ (x : Train). x.response) e)) (sym (ap (λ (x : Train). x.message) e))) (ap (λ (x : Train). x.code) e)
        (ap (λ (x : Train). x.receiver) e ∙ sym (ap (last_of r (λ s. s.receiver)) w ∙ last_append r (λ s. s.receiver) before s))
        (ap (λ (x : Train). x.store) e ∙ sym (ap (last_of store (λ s. s.store)) w ∙ last_append store (λ s. s.store) before s))
        (ap (λ (x : Train). x.output) e ∙ sym (ap (last_of output (λ s. s.output)) w ∙ last_append output (λ s. s.output) before s))
    kept (at before s rest n p a q c e) =
        let i : t.received ≡ length before = ap (λ (x : Train). x.received) e ∙ zero-add (length before) in
        let k : length steps ≡ length before + suc (length rest) = ap length p ∙ length-append before (s ∷ rest) in
        let code : t.code ≡ code_of n = ap (λ (x : Train). x.code) e in
        let front : take (t.received - 1) steps ≡ take (t.received - 1) before = ap (take (t.received - 1)) p ∙ take-append-le (t.received - 1) before (s ∷ rest) (omega (arith, i)) in
        record {
          there = omega (arith, i, k);
          before = subst AllEmpty (sym front) (all_take (t.received - 1) before a);
          last = λ j d y.
              ap (λ (v : Step). v.answer) (ap (λ (u : List Step). get_or u j d) p ∙ get_or-append before (s ∷ rest) d j (omega (arith, i, y)))
              ∙ empty_at before j d a (omega (arith, i, y)) ∙ ap₂ answered (sym (ap (λ (x : Train). x.response) e)) (sym (ap (λ (x : Train). x.message) e));
          receiver_left = λ z. absurd (never c code z);
          store_left = λ z. absurd (never c code z);
          output_left = λ z. absurd (never c code z);
          onward = λ z. absurd (never c code z);
          moves = λ z. absurd (never c code z);
          beside = λ z. (ap (λ (x : Train). x.response) e, ap (λ (x : Train). x.message) e);
        }

pub loses_nothing : LosesNothing
loses_nothing peer protocol reading l r store output =
    let e = ends_from peer protocol reading l 0 r store output in
    (e, kept peer protocol reading l r store output (train_of peer protocol reading l (start_of r store output)) e)
