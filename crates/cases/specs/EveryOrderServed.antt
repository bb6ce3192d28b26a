-- Every order of every train is served (EveryOrder) by a receiver of which demand 3's second half holds, and so by ours. Assumes nothing.
use Rattle.std.specs.Prelude.{ℕ, suc, ◌+◌, ◌≤◌, ◌<◌, min, ◌≡◌, refl, ◌⊎◌, List, [], ◌∷◌, ◌++◌, length, get_or, Option, Some, None}
use Rattle.std.proofs.Common.{sym, ap, subst, ◌∙◌, inl, inr, ⊎_elim, append_assoc, arith, zero-add, length-append, ne_eqb, lt-ltb, le-ltb}
use Rattle.std.proofs.Math.Decide.{ℕ_discrete}
use Rattle.octets.specs.Laws.{le_or_lt}
use Rattle.tsar.specs.Layout.{WholeSegment}
use Rattle.segmentation.specs.Cutting.{Cutting}
use Rattle.orders.specs.Statement.{hit, occurs, IsOrder}
use Rattle.orders.proofs.Laws.{hit_self}
use Rattle.receiver.specs.Record.{store_octets}
use Rattle.receiver.specs.Advance.{try_new_of}
use Rattle.receiver.specs.declared.Terms.{Terms}
use Rattle.delivery.specs.Calls.{Call, StepFunction, TryNewFunction, ours, carried}
use Rattle.delivery.specs.Delivery.{Brings, HasCome, AllHaveCome, Meets, DeliveryConditions, HandsOver, HandsOverExactly}
use Rattle.delivery.specs.Demand.{TrainFor, SecondHalf, SecondHalfAt}
use Rattle.delivery.specs.Own.{own_interval}
use Rattle.delivery.proofs.Theorem.{given_cutting, demand3}
use Rattle.cases.specs.EveryOrder.{InTime, arrival, bringing, bringing_from, received, Served, EveryOrderServed}

module _ (t : Terms) (segment : ℕ → WholeSegment) (clock : ℕ → ℕ) (out : ℕ → List ℕ) where
  abbrev call : ℕ → ℕ → Call
  call = bringing t segment clock out

  abbrev calls : ℕ → List ℕ → List Call
  calls = bringing_from t segment clock out

  behind : (place : ℕ) (l : List ℕ) (i : ℕ) → calls place (l ++ (i ∷ [])) ≡ calls place l ++ (call (place + length l) i ∷ [])
  behind place [] i = let e : place ≡ place + 0 = omega arith in ap {B = List Call} (λ (n : ℕ). call n i ∷ []) e
  behind place (x ∷ l) i =
      let e : suc place + length l ≡ place + suc (length l) = omega arith in
      ap {B = List Call} (λ (cs : List Call). call place x ∷ cs) (behind (suc place) l i ∙ ap {B = List Call} (λ (n : ℕ). calls (suc place) l ++ (call n i ∷ [])) e)

  -- a receive more, behind the list
  one_more : (l : List ℕ) (i : ℕ) → calls 0 (l ++ (i ∷ [])) ≡ calls 0 l ++ (call (length l) i ∷ [])
  one_more l i = behind 0 l i ∙ ap {B = List Call} (λ (n : ℕ). calls 0 l ++ (call n i ∷ [])) (zero-add (length l))

  -- ---- what has come

  brought : (place x s : ℕ) → x ≡ s → Brings (segment s) (arrival t segment clock out place x)
  brought place x s e = subst (λ (k : ℕ). Brings (segment k) (arrival t segment clock out place x)) e (record { same_sequence = refl; same_kind_lem = refl; same_data = refl })

  -- what is in a list and not first is behind
  other : (s x : ℕ) (l : List ℕ) → (x ≡ s → ⊥) → 0 < occurs s (x ∷ l) → 0 < occurs s l
  other s x l n h = let z : hit s x ≡ 0 = rw (ne_eqb s x (λ e. n (sym e))) in omega (arith, z)

  come : (s place : ℕ) (l : List ℕ) → 0 < occurs s l → HasCome (segment s) (calls place l)
  come s place [] h = absurd (omega arith)
  come s place (x ∷ l) h = go (ℕ_discrete x s) (come s (suc place) l)
    where
      go : Dec (x ≡ s) → (0 < occurs s l → HasCome (segment s) (calls (suc place) l)) → HasCome (segment s) (calls place (x ∷ l))
      go (yes e) f = inl (brought place x s e)
      go (no n) f = inr (f (other s x l n h))

  came : (x : WholeSegment) (place : ℕ) (l : List ℕ) → HasCome x (calls place l) → (i : ℕ) × (0 < occurs i l) × ((segment i).sequence_number ≡ x.sequence_number)
  came x place [] h = absurd h
  came x place (y ∷ l) h =
      ⊎_elim (λ (b : Brings x _). (y, omega (arith, hit_self y), b.same_sequence))
      (λ (g : HasCome x (calls (suc place) l)). let z = came x (suc place) l g in (z.0, omega (arith, z.1), z.2)) h

  -- ---- the delivery conditions

  module _ (interval made count : ℕ) (T : InTime interval made count clock) (room : (place : ℕ) → min t.maximum_message_octets store_octets ≤ length (out place))
      (one_transaction : (i : ℕ) → i < count → (segment i).transaction_id ≡ t.transaction_id) where
    abbrev Met : List Call → List Call → Type 0
    Met = DeliveryConditions interval t made count segment

    first : (x : ℕ) → x < count → x ≡ 0 → Meets interval t made count segment [] (call 0 x)
    first x w b =
        record {
          index = x;
          in_train = w;
          brings = brought 0 x x refl;
          begin_first = λ e. b;
          peer = refl;
          protocol = refl;
          transaction = one_transaction x w;
          parsed = refl;
          long_enough = room 0;
          reading_meets = record {
            never_falls = T.starts;
            in_time = λ s e m. absurd (let z : ◌≡◌ {A = ℕ} 0 1 = cc in omega arith);
            below = T.below 0;
          };
        }

    -- one behind another is in time, or all have come
    next : (place y : ℕ) (before : List Call) (x : ℕ) → x < count
        → ((AllHaveCome count segment (call place y ∷ before) → ⊥) → clock (suc place) < clock place + interval)
        → Meets interval t made count segment (call place y ∷ before) (call (suc place) x)
    next place y before x w soon =
        record {
          index = x;
          in_train = w;
          brings = brought (suc place) x x refl;
          begin_first = λ e. absurd (let z : ◌≡◌ {A = ℕ} 0 1 = cc in omega arith);
          peer = refl;
          protocol = refl;
          transaction = one_transaction x w;
          parsed = refl;
          long_enough = room (suc place);
          reading_meets = record {
            never_falls = T.never_falls place;
            in_time = λ s e m. let z : clock place ≡ s = cc in let h = soon m in omega arith;
            below = T.below (suc place);
          };
        }

    later : (place y : ℕ) (before : List Call) (l : List ℕ) → ((s : ℕ) → 0 < occurs s l → s < count) → suc place + length l ≤ count
        → Met (call place y ∷ before) (calls (suc place) l)
    later place y before [] h fit = tt
    later place y before (x ∷ l) h fit =
        (next place y before x (h x (omega (arith, hit_self x))) (λ m. T.under place (omega arith)), later (suc place) x (call place y ∷ before) l (λ s k. h s (omega (arith, k))) (omega arith))

    -- where all have come, any of them again
    any_again : (place y : ℕ) (before : List Call) (l : List ℕ) → ((s : ℕ) → 0 < occurs s l → s < count) → AllHaveCome count segment (call place y ∷ before)
        → Met (call place y ∷ before) (calls (suc place) l)
    any_again place y before [] h all = tt
    any_again place y before (x ∷ l) h all =
        (next place y before x (h x (omega (arith, hit_self x))) (λ m. absurd (m all)), any_again (suc place) x (call place y ∷ before) l (λ s k. h s (omega (arith, k))) (λ s b. inr (all s b)))

    -- the same with segments that come again behind them
    later_again : (place y : ℕ) (before : List Call) (l again : List ℕ) → ((s : ℕ) → 0 < occurs s l → s < count) → suc place + length l ≤ count
        → ((s : ℕ) → 0 < occurs s again → s < count)
        → ((s : ℕ) → s < count → HasCome (segment s) (call place y ∷ before) ⊎ (0 < occurs s l))
        → Met (call place y ∷ before) (calls (suc place) (l ++ again))
    later_again place y before [] again h fit k all =
        any_again place y before again k (λ s b. ⊎_elim (λ (c : HasCome (segment s) (call place y ∷ before)). c) (λ (z : 0 < 0). absurd (omega arith)) (all s b))
    later_again place y before (x ∷ l) again h fit k all = (
      next place y before x (h x (omega (arith, hit_self x))) (λ m. T.under place (omega arith)),
      later_again (suc place) x (call place y ∷ before) l again (λ s b. h s (omega (arith, b))) (omega arith) k
          (λ s b. ⊎_elim (λ (c : HasCome (segment s) (call place y ∷ before)). inl (inr c)) (λ (z : 0 < occurs s (x ∷ l)). go s (ℕ_discrete x s) z) (all s b)),
    )
      where
        go : (s : ℕ) → Dec (x ≡ s) → 0 < occurs s (x ∷ l) → HasCome (segment s) (call (suc place) x ∷ call place y ∷ before) ⊎ (0 < occurs s l)
        go s (yes e) z = inl (inl (brought (suc place) x s e))
        go s (no n) z = inr (other s x l n z)

    -- so of any segments of the train, Begin first, at most as many as it has
    conditions : (l : List ℕ) → get_or l 0 0 ≡ 0 → ((s : ℕ) → 0 < occurs s l → s < count) → length l ≤ count → Met [] (calls 0 l)
    conditions [] b h fit = tt
    conditions (x ∷ l) b h fit = (first x (h x (omega (arith, hit_self x))) b, later 0 x [] l (λ s k. h s (omega (arith, k))) (omega arith))

    -- and of all of them with some again
    conditions_again : (o again : List ℕ) → IsOrder count o → ((s : ℕ) → 0 < occurs s o → s < count) → ((s : ℕ) → s < count → 0 < occurs s o)
        → ((s : ℕ) → 0 < occurs s again → s < count) → Met [] (calls 0 (o ++ again))
    conditions_again [] again c h all k = absurd (omega (arith, c.begins))
    conditions_again (x ∷ o) again c h all k = (
      first x (h x (omega (arith, hit_self x))) c.begins,
      later_again 0 x [] o again (λ s b. h s (omega (arith, b))) (omega (arith, c.long)) k (λ s b. go s (ℕ_discrete x s) (all s b)),
    )
      where
        go : (s : ℕ) → Dec (x ≡ s) → 0 < occurs s (x ∷ o) → HasCome (segment s) (call 0 x ∷ []) ⊎ (0 < occurs s o)
        go s (yes e) z = inl (inl (brought 0 x s e))
        go s (no n) z = inr (other s x o n z)

-- ---- orders

occurs_append : (s : ℕ) (p q : List ℕ) → occurs s (p ++ q) ≡ occurs s p + occurs s q
occurs_append s [] q = omega arith
occurs_append s (x ∷ p) q = omega (arith, occurs_append s p q)

module _ (n : ℕ) (o : List ℕ) (c : IsOrder n o) where
  -- what is in an order is a segment of the train, and each is once
  in_train : (s : ℕ) → 0 < occurs s o → s < n
  in_train s h =
      ⊎_elim (λ (l : n ≤ s). let e : occurs s o ≡ 0 = c.each s ∙ rw (le-ltb s n l) refl in absurd (omega (arith, e))) (λ (l : s < n). l) (le_or_lt n s)

  once_in : (s : ℕ) → s < n → occurs s o ≡ 1
  once_in s h = c.each s ∙ rw (lt-ltb s n h) refl

first_same : (p : List ℕ) (i : ℕ) (r : List ℕ) → get_or (p ++ (i ∷ r)) 0 1 ≡ get_or (p ++ (i ∷ [])) 0 0
first_same [] i r = refl
first_same (x ∷ p) i r = refl

never : (m : Option ℕ) → ((k : ℕ) → m ≡ Some k → ⊥) → m ≡ None
never None f = refl
never (Some k) f = absurd (f k refl)

-- ---- the law

module _ (interval : ℕ) (new : TryNewFunction) (step : StepFunction) (t : Terms) (p : SecondHalfAt interval new step t) (made : ℕ) (e : (new t made).refused ≡ None)
    (store message : List ℕ) (count : ℕ) (segment : ℕ → WholeSegment) (train : TrainFor t.transaction_id t.version message count segment)
    (fits : length message ≤ t.maximum_message_octets) (stored : store_octets ≤ length store)
    (clock : ℕ → ℕ) (in_time : InTime interval made count clock)
    (out : ℕ → List ℕ) (room : (place : ℕ) → min t.maximum_message_octets store_octets ≤ length (out place)) where
  cutting : Cutting message t.transaction_id count segment
  cutting = given_cutting t.transaction_id t.version message count segment train

  abbrev Exactly : List ℕ → ℕ → Type 0
  Exactly before i =
      HandsOverExactly count segment message (calls t segment clock out 0 before) (call t segment clock out (length before) i) (received new step t made store segment clock out before i)

  -- the second half, of a list under the conditions
  exactly : (before : List ℕ) (i : ℕ) → DeliveryConditions interval t made count segment [] (calls t segment clock out 0 (before ++ (i ∷ []))) → Exactly before i
  exactly before i m =
      p made e store message count segment train fits stored (calls t segment clock out 0 before) (call t segment clock out (length before) i)
      (subst (λ (cs : List Call). DeliveryConditions interval t made count segment [] cs) (one_more t segment clock out before i) m)

  part : (before : List ℕ) (i : ℕ) (rest : List ℕ) → IsOrder count (before ++ (i ∷ rest)) → ((s : ℕ) → 0 < occurs s (before ++ (i ∷ [])) → s < count) → Exactly before i
  part before i rest o h =
      exactly before i
      (conditions t segment clock out interval made count in_time room cutting.one_transaction (before ++ (i ∷ [])) (sym (first_same before i rest) ∙ o.begins) h
      (omega (arith, o.long, length-append before (i ∷ rest), length-append before (i ∷ []))))

  -- where a segment of the train is not in the list, not all have come
  not_all : (l : List ℕ) → ((s : ℕ) → 0 < occurs s l → s < count) → (s : ℕ) → s < count → occurs s l ≡ 0 → AllHaveCome count segment (calls t segment clock out 0 l) → ⊥
  not_all l h s k z a =
      let c = came t segment clock out (segment s) 0 l (a s k) in
      let same : c.0 ≡ s = sym (cutting.numbered c.0 (h c.0 c.1)) ∙ c.2 ∙ cutting.numbered s k in
      let none_there : occurs c.0 l ≡ 0 = ap (λ (x : ℕ). occurs x l) same ∙ z in
      omega (arith, c.1, none_there)

  -- in every order the last receive hands the message over
  last_hands_over : (before : List ℕ) (i : ℕ) → IsOrder count (before ++ (i ∷ [])) → HandsOver (received new step t made store segment clock out before i) message
  last_hands_over before i o =
      let h : (s : ℕ) → 0 < occurs s (before ++ (i ∷ [])) → s < count = in_train count (before ++ (i ∷ [])) o in
      let there = occurs_append i before (i ∷ []) in
      let k : i < count = h i (omega (arith, there, hit_self i)) in
      (part before i [] o h).when
      (λ s l.
      subst (λ (cs : List Call). HasCome (segment s) cs) (one_more t segment clock out before i)
      (come t segment clock out s 0 (before ++ (i ∷ [])) (omega (arith, once_in count (before ++ (i ∷ [])) o s l))))
      (not_all before (λ s l. h s (omega (arith, l, occurs_append s before (i ∷ [])))) i k (omega (arith, there, once_in count (before ++ (i ∷ [])) o i k, hit_self i)))

  -- none before it does
  none_before : (before : List ℕ) (i j : ℕ) (rest : List ℕ) → IsOrder count (before ++ (i ∷ j ∷ rest)) → carried (received new step t made store segment clock out before i).answer ≡ None
  none_before before i j rest o =
      let all : List ℕ = before ++ (i ∷ j ∷ rest) in
      let h : (s : ℕ) → 0 < occurs s all → s < count = in_train count all o in
      let there = occurs_append j before (i ∷ j ∷ rest) in
      let k : j < count = h j (omega (arith, there, hit_self j)) in
      let so_far : (s : ℕ) → 0 < occurs s (before ++ (i ∷ [])) → s < count = λ s l. h s (omega (arith, l, occurs_append s before (i ∷ []), occurs_append s before (i ∷ j ∷ rest))) in
      never (carried (received new step t made store segment clock out before i).answer)
      (λ n q.
      let r = (part before i (j ∷ rest) o so_far).only_when n q in
      not_all (before ++ (i ∷ [])) so_far j k (omega (arith, there, occurs_append j before (i ∷ []), once_in count all o j k, hit_self j))
      (λ s l. subst (λ (cs : List Call). HasCome (segment s) cs) (sym (one_more t segment clock out before i)) (r.0 s l)))

  -- nor do segments that come again behind it
  none_again : (o : List ℕ) → IsOrder count o → (again : List ℕ) → ((s : ℕ) → 0 < occurs s again → s < count) → (i : ℕ) → i < count
      → carried (received new step t made store segment clock out (o ++ again) i).answer ≡ None
  none_again o c again w i h =
      let all : (s : ℕ) → s < count → 0 < occurs s o = λ s l. omega (arith, once_in count o c s l) in
      let more : (s : ℕ) → 0 < occurs s (again ++ (i ∷ [])) → s < count =
      λ s l. ⊎_elim (λ (z : 1 ≤ occurs s again). w s z) (λ (z : occurs s again < 1). is s (ℕ_discrete s i) (omega (arith, l, z, occurs_append s again (i ∷ [])))) (le_or_lt 1 (occurs s again)) in
      let m = conditions_again t segment clock out interval made count in_time room cutting.one_transaction o (again ++ (i ∷ [])) c (in_train count o c) all more in
      never (carried (received new step t made store segment clock out (o ++ again) i).answer)
      (λ n q.
      ((exactly (o ++ again) i
      (subst (λ (l : List ℕ). DeliveryConditions interval t made count segment [] (calls t segment clock out 0 l)) (sym (append_assoc o again (i ∷ []))) m)).only_when n q).1
      (λ s l. come t segment clock out s 0 (o ++ again) (omega (arith, all s l, occurs_append s o again))))
    where
      is : (s : ℕ) → Dec (s ≡ i) → 0 < hit s i + 0 → s < count
      is s (yes e) z = omega arith
      is s (no n) z = let y : hit s i ≡ 0 = rw (ne_eqb s i n) in absurd (omega (arith, y, z))

  served : (o : List ℕ) → IsOrder count o → Served new step t made store segment clock out message count o
  served o c =
      record {
        last = λ before i q. last_hands_over before i (subst (λ (l : List ℕ). IsOrder count l) q c);
        no_other = λ before i j rest q. none_before before i j rest (subst (λ (l : List ℕ). IsOrder count l) q c);
        not_again = none_again o c;
      }

pub every_order_served : (interval : Terms → ℕ) (new : TryNewFunction) (step : StepFunction) → SecondHalf interval new step → EveryOrderServed interval new step
every_order_served interval new step p t made e store message count segment train fits stored clock in_time out room o c =
    served (interval t) new step t (p t) made e store message count segment train fits stored clock in_time out room o c

-- ours, at its own interval
pub ours_served : EveryOrderServed own_interval try_new_of ours
ours_served = every_order_served own_interval try_new_of ours demand3.second_half
