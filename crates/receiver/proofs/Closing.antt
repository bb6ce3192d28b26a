-- When a release is refused and when not, and when a cancel is not. Document 02, 2026-07: 'Release gives 60, 62 and 33 in that order, and 38 unless the
-- receiver is Complete.' Laws of the definitions, over any record and store, of which the crates above have use. They assume nothing.
use Prim.Native.Nat.{ℕ, ◌≤◌, ◌<◌}
use mathlib.Core.Path.{◌≡◌, ap}
use mathlib.Core.List.{List, [], ◌∷◌, ◌++◌}
use mathlib.Core.Bool.{Bool, true, false, not, ◌||◌}
use Rattle.std.specs.Prelude.{Option, Some, None}
use lib.ListN.{length}
use borrow.Author.Tests.{le-ltb, lt-ltb}
use Rattle.tsar.specs.Rows.{Refusal, refusal, refusal_pass}
use Rattle.receiver.specs.declared.Receiver.{Receiver}
use Rattle.receiver.specs.Record.{awaiting, receiving, complete, store_octets, impossible}
use Rattle.receiver.specs.Answers.{refuses}
use Rattle.receiver.specs.Advance.{clock_rows, cancel_after, cancel_of, release_rows, release_of}

-- 'Release gives 60, 62 and 33 in that order, and 38 unless the receiver is Complete'; beside each, record and store are as before
module _ (r : Receiver) (store : List ℕ) (now' : ℕ) where
  gives : (n : Refusal) → refusal (release_rows r store now') ≡ Some n → release_of r store now' ≡ refuses n r store []
  unfolding release_of
  gives n e = ap (λ (v : Option Refusal). cancel_after v r store now') e

  pub gives_60 : length store < store_octets → release_of r store now' ≡ refuses (60, 0) r store []
  gives_60 h = gives (60, 0) (rw (lt-ltb _ _ h))

  module _ (room : store_octets ≤ length store) where
    pub gives_62 : impossible r ≡ true → release_of r store now' ≡ refuses (62, 0) r store []
    gives_62 bad = gives (62, 0) (rw (le-ltb (length store) store_octets room, bad))

    module _ (ok : impossible r ≡ false) where
      pub gives_33 : now' < r.progress.last_monotonic_ms → release_of r store now' ≡ refuses (33, 0) r store []
      gives_33 h = gives (33, 0) (rw (le-ltb (length store) store_octets room, ok, lt-ltb _ _ h))

      pub gives_38 : r.progress.last_monotonic_ms ≤ now' → complete r.progress.state ≡ false → release_of r store now' ≡ refuses (38, 0) r store []
      gives_38 l f = gives (38, 0) (rw (le-ltb (length store) store_octets room, ok, le-ltb now' r.progress.last_monotonic_ms l, f))

-- what holds where the clock's tests pass and 38's does
module _ (r : Receiver) (store : List ℕ) (now' : ℕ) (room : store_octets ≤ length store) (ok : impossible r ≡ false) (l : r.progress.last_monotonic_ms ≤ now') where
  closes_by : (b : Bool) → b ≡ true → cancel_after (refusal (clock_rows r store now' ++ ((not b, (38, 0)) ∷ []))) r store now' ≡ cancel_after None r store now'
  closes_by b e =
      ap (λ (v : Option Refusal). cancel_after v r store now')
      (refusal_pass (clock_rows r store now' ++ ((not b, (38, 0)) ∷ [])) (le-ltb (length store) store_octets room, (ok, (le-ltb now' r.progress.last_monotonic_ms l, (ap not e, tt)))))

  -- of a Complete receiver that is none of 62's, with room in the store and a reading that isn't below the last
  pub releases : complete r.progress.state ≡ true → release_of r store now' ≡ cancel_after None r store now'
  unfolding release_of
  releases e = closes_by (complete r.progress.state) e

  -- as a cancel is not of one that is AwaitingBegin or Receiving
  pub cancels : (awaiting r.progress.state || receiving r.progress.state) ≡ true → cancel_of r store now' ≡ cancel_after None r store now'
  unfolding cancel_of
  cancels e = closes_by (awaiting r.progress.state || receiving r.progress.state) e
