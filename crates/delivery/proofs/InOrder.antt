-- Every train of the second half delivered in order: Begin first, each segment once, all at the reading of try_new. That list of calls meets the
-- delivery conditions, and its last call is the first by which every segment has come. So a receiver of which the second half holds hands the
-- message over with it, whichever planner made the train, or whoever proposed it to the frozen check. Trains of each case of `TrainFor` stand in
-- Witness and TrainsRefuted. Assumes nothing.
use Prim.Native.Nat.{ℕ, zero, suc, ◌-◌, ◌^◌, ◌≤◌, ◌<◌, min}
use Rattle.std.proofs.Math.Path.{◌≡◌, refl, subst}
use Rattle.std.proofs.Common.{sym, inl, inr}
use Rattle.std.specs.Prelude.{◌⊎◌, length, None}
use Rattle.std.proofs.Math.Logic.{⊎_elim}
use mathlib.Core.List.{List, [], ◌∷◌, ◌++◌}
use native.Mathlib.Omega.{arith}
use Rattle.octets.specs.Laws.{le_or_lt}
use Rattle.tsar.specs.Layout.{WholeSegment}
use Rattle.segmentation.specs.Cutting.{Cutting}
use Rattle.receiver.specs.Record.{store_octets}
use Rattle.receiver.specs.declared.Terms.{Terms}
use Rattle.delivery.specs.Calls.{Call, receive, advance, cancel, release, StepFunction, TryNewFunction, start, after}
use Rattle.delivery.specs.Delivery.{Brings, HasCome, Meets, DeliveryConditions, HandsOver}
use Rattle.delivery.specs.Demand.{TrainFor, SecondHalfAt, step_after}
use Rattle.delivery.specs.ProgressAll.{latest_first}
use Rattle.delivery.specs.Train.{head_of}
use Rattle.delivery.proofs.Theorem.{given_cutting}

-- ---- a call more, behind a list

latest_behind : (before cs : List Call) (c : Call) → latest_first before (cs ++ (c ∷ [])) ≡ c ∷ latest_first before cs
latest_behind before [] c = refl
latest_behind before (d ∷ cs) c = latest_behind (d ∷ before) cs c

come_before : (x : WholeSegment) (cs : List Call) (c : Call) → HasCome x cs → HasCome x (cs ++ (c ∷ []))
come_before x [] c h = elim h [ ]
come_before x (receive a out ∷ cs) c (inl b) = inl b
come_before x (receive a out ∷ cs) c (inr h) = inr (come_before x cs c h)
come_before x (advance n ∷ cs) c h = come_before x cs c h
come_before x (cancel n ∷ cs) c h = come_before x cs c h
come_before x (release n ∷ cs) c h = come_before x cs c h

come_behind : (x : WholeSegment) (cs : List Call) (c : Call) → HasCome x (c ∷ []) → HasCome x (cs ++ (c ∷ []))
come_behind x [] c h = h
come_behind x (receive a out ∷ cs) c h = inr (come_behind x cs c h)
come_behind x (advance n ∷ cs) c h = come_behind x cs c h
come_behind x (cancel n ∷ cs) c h = come_behind x cs c h
come_behind x (release n ∷ cs) c h = come_behind x cs c h

come_either : (x : WholeSegment) (cs : List Call) (c : Call) → HasCome x (cs ++ (c ∷ [])) → HasCome x cs ⊎ HasCome x (c ∷ [])
come_either x [] c h = inr h
come_either x (receive a out ∷ cs) c (inl b) = inl (inl b)
come_either x (receive a out ∷ cs) c (inr h) = ⊎_elim (λ (l : HasCome x cs). inl (inr l)) (λ (l : HasCome x (c ∷ [])). inr l) (come_either x cs c h)
come_either x (advance n ∷ cs) c h = come_either x cs c h
come_either x (cancel n ∷ cs) c h = come_either x cs c h
come_either x (release n ∷ cs) c h = come_either x cs c h

conditions_behind : (interval : ℕ) (t : Terms) (made count : ℕ) (segment : ℕ → WholeSegment) (before cs : List Call) (c : Call)
    → DeliveryConditions interval t made count segment before cs → Meets interval t made count segment (latest_first before cs) c → DeliveryConditions interval t made count segment before (cs ++ (c ∷ []))
conditions_behind interval t made count segment before [] c D m = (m, tt)
conditions_behind interval t made count segment before (d ∷ cs) c D m = (D.0, conditions_behind interval t made count segment (d ∷ before) cs c D.1 m)

-- ---- the list

module _ (t : Terms) (made : ℕ) (segment : ℕ → WholeSegment) (out : List ℕ) where
  -- segment i, as a receive of the peer brings it at try_new's reading
  abbrev pub bringing : ℕ → Call
  bringing i =
      receive
      (record {
        peer = t.peer;
        protocol = t.protocol;
        segment = head_of (segment i);
        octets = (segment i).segment_data;
        unparsed = 0;
        reading = made;
      }) out

  -- segments 0 to n - 1, in order
  unfoldable pub bringing_to : ℕ → List Call
  bringing_to zero = []
  bringing_to (suc n) = bringing_to n ++ (bringing n ∷ [])

  latest_is : (n : ℕ) → latest_first [] (bringing_to (suc n)) ≡ bringing n ∷ latest_first [] (bringing_to n)
  unfolding bringing_to
  latest_is n = latest_behind [] (bringing_to n) (bringing n)

  -- segment i has come once it was brought
  come : (n i : ℕ) → i < n → HasCome (segment i) (bringing_to n)
  unfolding bringing_to
  come zero i h = absurd (omega arith)
  come (suc n) i h =
      ⊎_elim (λ (l : suc i ≤ n). come_before (segment i) (bringing_to n) (bringing n) (come n i l))
      (λ (l : n < suc i).
      let e : i ≡ n = omega arith in
      come_behind (segment i) (bringing_to n) (bringing n) (subst (λ (k : ℕ). HasCome (segment i) (bringing k ∷ [])) e (inl (record { same_sequence = refl; same_kind_lem = refl; same_data = refl }))))
      (le_or_lt (suc i) n)

  -- and what has come has the sequence number of one that was brought
  came : (x : WholeSegment) (n : ℕ) → HasCome x (bringing_to n) → (i : ℕ) × (i < n) × ((segment i).sequence_number ≡ x.sequence_number)
  unfolding bringing_to
  came x zero h = absurd h
  came x (suc n) h =
      ⊎_elim (λ (l : HasCome x (bringing_to n)). let z = came x n l in (z.0, omega (arith, z.1), z.2))
      (λ (l : HasCome x (bringing n ∷ [])). (n, omega arith, ⊎_elim (λ (b : Brings x _). b.same_sequence) (λ (e : ⊥). absurd e) l))
      (come_either x (bringing_to n) (bringing n) h)

  module _ (interval count : ℕ) (positive : 0 < interval) (low : made ≤ 2 ^ 64 - 1 - interval) (room : min t.maximum_message_octets store_octets ≤ length out)
      (one_transaction : (i : ℕ) → i < count → (segment i).transaction_id ≡ t.transaction_id) where
    meets : (n : ℕ) → n < count → Meets interval t made count segment (latest_first [] (bringing_to n)) (bringing n)
    unfolding bringing_to
    meets zero h =
        record {
          index = 0;
          in_train = h;
          brings = record { same_sequence = refl; same_kind_lem = refl; same_data = refl };
          begin_first = λ e. refl;
          peer = refl;
          protocol = refl;
          transaction = one_transaction 0 h;
          parsed = refl;
          long_enough = room;
          reading_meets = record { never_falls = omega arith; in_time = λ s e m. absurd (let z : ◌≡◌ {A = ℕ} 0 1 = cc in omega arith); below = low };
        }
    meets (suc n) h =
        subst (λ (l : List Call). Meets interval t made count segment l (bringing (suc n))) (sym (latest_is n))
        (record {
          index = suc n;
          in_train = h;
          brings = record { same_sequence = refl; same_kind_lem = refl; same_data = refl };
          begin_first = λ e. absurd (let z : ◌≡◌ {A = ℕ} 0 1 = cc in omega arith);
          peer = refl;
          protocol = refl;
          transaction = one_transaction (suc n) h;
          parsed = refl;
          long_enough = room;
          reading_meets = record { never_falls = omega arith; in_time = λ s e m. let z : made ≡ s = cc in omega arith; below = low };
        })

    -- the conditions are met
    pub conditions : (n : ℕ) → n ≤ count → DeliveryConditions interval t made count segment [] (bringing_to n)
    unfolding bringing_to
    conditions zero h = tt
    conditions (suc n) h = conditions_behind interval t made count segment [] (bringing_to n) (bringing n) (conditions n (omega arith)) (meets n h)

-- ---- the law

-- the message of every train that is given is handed over with the last segment, where the reading of try_new is at most 2^64 - 1 - interval
pub in_order : (interval : ℕ) → 0 < interval → (new : TryNewFunction) (step : StepFunction) (t : Terms) → SecondHalfAt interval new step t
    → (made : ℕ) → (new t made).refused ≡ None → made ≤ 2 ^ 64 - 1 - interval
    → (store message : List ℕ) (count : ℕ) (segment : ℕ → WholeSegment) → TrainFor t.transaction_id t.version message count segment
    → length message ≤ t.maximum_message_octets → store_octets ≤ length store
    → (out : List ℕ) → min t.maximum_message_octets store_octets ≤ length out
    → HandsOver (step_after step (after step (start (new t made).receiver store) (bringing_to t made segment out (count - 1))) (bringing t made segment out (count - 1))) message
unfolding bringing_to
in_order interval positive new step t p made e low store message count segment T fits room out long = go (count - 1) refl (omega (arith, cutting.at_least))
  where
    cutting : Cutting message t.transaction_id count segment
    cutting = given_cutting t.transaction_id t.version message count segment T

    go : (k : ℕ) → count - 1 ≡ k → suc k ≡ count
        → HandsOver (step_after step (after step (start (new t made).receiver store) (bringing_to t made segment out k)) (bringing t made segment out k)) message
    go k q f =
        (p made e store message count segment T fits room (bringing_to t made segment out k) (bringing t made segment out k)
        (conditions t made segment out interval count positive low long cutting.one_transaction (suc k) (omega arith))).when
        (λ i h. come t made segment out (suc k) i (omega arith))
        (λ a.
        let z = came t made segment out (segment k) k (a k (omega arith)) in
        omega (arith, z.1, z.2, cutting.numbered z.0 (omega (arith, z.1)), cutting.numbered k (omega arith)))
