-- Laws of trains: one segment after another, parts of octets, and the two ways in which the call returns. Assumes nothing.
use Rattle.std.specs.Prelude.{◌≡◌, refl, Bool, true, false, cond, ℕ, suc, ◌+◌, ◌-◌, ◌*◌, ◌/◌, ◌≤◌, ◌<◌, min, length, take, drop, Option, Result, Some, None, Ok, Err}
use Rattle.std.proofs.Common.{sym, ◌∙◌, ⊎_elim, arith, length-drop, drop_of_length-le, take_all, drop-drop}
use Rattle.std.proofs.Math.Path.{ap, ap₂}
use mathlib.Core.List.{List}
use Rattle.std.proofs.Math.Nat.{min-eq_left, min-eq_right}
use Rattle.std.proofs.lemmas.List.Edits.{sets}
use Rattle.octets.specs.Laws.{le_or_lt}
use Rattle.tsar.specs.Rows.{Refusal, refusal}
use Rattle.tsar.specs.Numbers.{number}
use Rattle.tsar.specs.Reading.{Decoded, told_of, told_by, decoded_by, segment_of as decode_of}
use Rattle.tsar.proofs.Told.{told_whole}
use Rattle.tsar.specs.declared.Error.{Error}
use Rattle.tsar.specs.declared.DecodedSegment.{DecodedSegment}
use Rattle.link.specs.declared.MobileIdentity.{MobileIdentity}
use Rattle.link.specs.declared.HigherLayerProtocol.{HigherLayerProtocol}
use Rattle.receiver.specs.declared.Receiver.{Receiver}
use Rattle.receiver.specs.declared.Reported.{Reported}
use Rattle.receiver.specs.Answers.{Answer, refused, answered, Step, refuses}
use Rattle.receiver.specs.Record.{interval_of}
use Rattle.receiver.specs.Receive.{receive_of}
use Rattle.codec_c.specs.Codes.{code_of, unless_refused}
use Rattle.image.specs.Spelling.{put_spells, put_next}
use Rattle.image.specs.Numbers.{spell, number_of, length_spell}
use Rattle.image.specs.Cases.{protocol_of}
use Rattle.receiver_image.specs.Images.{image_of, record_of, ReceiverFits, receiver_layout}
use Rattle.receiver_answers.specs.Answers.{reception_image}
use Rattle.train_c.specs.Walk.{Train, train, segments_of, start_of, stops, decoded_step, train_step, train_of, after}
use Rattle.train_c.specs.Calls.{Asked, call, train_tests, train_asked, train_image, train_done, train_call, Met}

-- ---- parts of octets, as far as they go

take_min : (n : ℕ) (l : List ℕ) → take (min n (length l)) l ≡ take n l
take_min n l =
    ⊎_elim (λ (h : n ≤ length l). ap (λ (k : ℕ). take k l) (min-eq_left h))
    (λ (h : length l < n).
    let k : length l ≤ n = omega arith in
    take_all (min n (length l)) l (omega arith) ∙ sym (take_all n l k))
    (le_or_lt n (length l))

pub drop_min : (n : ℕ) (l : List ℕ) → drop (min n (length l)) l ≡ drop n l
drop_min n l =
    ⊎_elim (λ (h : n ≤ length l). ap (λ (k : ℕ). drop k l) (min-eq_left h))
    (λ (h : length l < n).
    let k : length l ≤ n = omega arith in
    ap (λ (m : ℕ). drop m l) (min-eq_right k) ∙ drop_of_length-le l {i = length l} (omega arith) ∙ sym (drop_of_length-le l {i = n} k))
    (le_or_lt n (length l))

-- the part between a start and an end that are cut to the octets
pub part_is : (l : List ℕ) (b n s e : ℕ) → s ≡ min b (length l) → e ≡ s + min n (length l - s) → take (e - s) (drop s l) ≡ take n (drop b l)
part_is l b n s e p q =
    let m : e - s ≡ min n (length l - s) = omega arith in
    ap (λ (k : ℕ). take k (drop s l)) (m ∙ ap (λ (k : ℕ). min n k) (sym (length-drop s l))) ∙ take_min n (drop s l)
    ∙ ap (take n) (ap (λ (k : ℕ). drop k l) p ∙ drop_min b l)

-- ---- one segment

module _ (peer : MobileIdentity) (protocol : HigherLayerProtocol) (reading : ℕ) (r : Receiver) (octets store output : List ℕ) where
  pub step_by : (d : Decoded) → d ≡ decode_of r.terms.version octets → decoded_step peer protocol reading d r store output ≡ train_step peer protocol reading r octets store output
  unfolding train_step
  step_by d e = ap (λ (x : Decoded). decoded_step peer protocol reading x r store output) e

  -- decoding refuses it
  pub step_refused : (a : Result DecodedSegment Error) (e : Error) → a ≡ Err e → told_by a ≡ told_of (decode_of r.terms.version octets)
      → refuses (number e) r store output ≡ train_step peer protocol reading r octets store output
  step_refused a e p q = step_by (decoded_by octets (Err e)) (ap (decoded_by octets) (sym p) ∙ told_whole r.terms.version octets a q)

  -- it is decoded, and received with its data
  pub step_decoded : (a : Result DecodedSegment Error) (d : DecodedSegment) (l : List ℕ) → a ≡ Ok d → told_by a ≡ told_of (decode_of r.terms.version octets) → l ≡ take d.head.segment_data_length (drop 3 octets)
      → receive_of (interval_of r) r (record { peer = peer; protocol = protocol; segment = d.head.segment; octets = l; unparsed = d.unparsed_octets; reading = reading }) store output
      ≡ train_step peer protocol reading r octets store output
  step_decoded a d l p q e =
      ap (λ (x : List ℕ). receive_of (interval_of r) r (record { peer = peer; protocol = protocol; segment = d.head.segment; octets = x; unparsed = d.unparsed_octets; reading = reading }) store output) e
      ∙ step_by (decoded_by octets (Ok d)) (ap (decoded_by octets) (sym p) ∙ told_whole r.terms.version octets a q)

-- ---- one segment after another

module _ (peer : MobileIdentity) (protocol : HigherLayerProtocol) (reading : ℕ) where
  -- no segment is left
  pub train_ends : (n : ℕ) (lengths octets : List ℕ) (t : Train) → n ≡ 0 → train_of peer protocol reading (segments_of n lengths octets) t ≡ t
  unfolding train_of segments_of
  train_ends n lengths octets t e = ap (λ (k : ℕ). train_of peer protocol reading (segments_of k lengths octets) t) e

  -- the next one takes its step
  pub train_steps : (n m : ℕ) (lengths octets : List ℕ) (t : Train) (s : Step) → n ≡ suc m → s ≡ train_step peer protocol reading t.receiver (take (number_of 2 lengths) octets) t.store t.output
      → train_of peer protocol reading (segments_of n lengths octets) t
      ≡ after (train_of peer protocol reading (segments_of m (drop 2 lengths) (drop (number_of 2 lengths) octets))) t s.answer s.receiver s.store s.output
  unfolding train_of segments_of
  train_steps n m lengths octets t s e p =
      ap (λ (k : ℕ). train_of peer protocol reading (segments_of k lengths octets) t) e
      ∙ ap
      (λ (x : Step).
      after (train_of peer protocol reading (segments_of m (drop 2 lengths) (drop (number_of 2 lengths) octets))) t x.answer x.receiver x.store x.output)
      (sym p)

  -- a turn of the code: what is left from segment i on makes the same whole train after its step
  pub train_turn : (lengths octets : List ℕ) (count i at n : ℕ) (l : List ℕ) (t : Train) (s : Step) (whole : Train) → i < count → n ≡ number_of 2 (drop (2 * i) lengths) → l ≡ take n (drop at octets)
      → s ≡ train_step peer protocol reading t.receiver l t.store t.output
      → train_of peer protocol reading (segments_of (count - i) (drop (2 * i) lengths) (drop at octets)) t ≡ whole
      → after (train_of peer protocol reading (segments_of (count - (i + 1)) (drop (2 * (i + 1)) lengths) (drop (min (at + n) (length octets)) octets))) t s.answer s.receiver s.store s.output ≡ whole
  train_turn lengths octets count i at n l t s whole h e p q inv =
      let k : count - i ≡ suc (count - (i + 1)) = omega arith in
      let two : 2 * i + 2 ≡ 2 * (i + 1) = omega arith in
      let m : l ≡ take (number_of 2 (drop (2 * i) lengths)) (drop at octets) = p ∙ ap (λ (x : ℕ). take x (drop at octets)) e in
      let a : drop 2 (drop (2 * i) lengths) ≡ drop (2 * (i + 1)) lengths = drop-drop 2 (2 * i) lengths ∙ ap (λ (x : ℕ). drop x lengths) two in
      let b : drop (number_of 2 (drop (2 * i) lengths)) (drop at octets) ≡ drop (min (at + n) (length octets)) octets =
      ap (λ (x : ℕ). drop x (drop at octets)) (sym e) ∙ drop-drop n at octets ∙ sym (drop_min (at + n) octets) in
      ap₂ (λ (x y : List ℕ). after (train_of peer protocol reading (segments_of (count - (i + 1)) x y)) t s.answer s.receiver s.store s.output) (sym a) (sym b)
      ∙ sym
      (train_steps (count - i) (count - (i + 1)) (drop (2 * i) lengths) (drop at octets) t s k
      (q ∙ ap (λ (x : List ℕ). train_step peer protocol reading t.receiver x t.store t.output) m))
      ∙ inv

-- a step that is refused ends the train
pub train_stops : (go : Train → Train) (t : Train) (s : Step) (whole : Train) (n : Refusal) (k : ℕ) → after go t s.answer s.receiver s.store s.output ≡ whole → s.answer ≡ refused n
    → k ≡ code_of n → train k s.receiver s.store s.output t.received t.response t.message ≡ whole
train_stops go t s whole n k p e q =
    ap (λ (x : ℕ). train x s.receiver s.store s.output t.received t.response t.message) q
    ∙ ap (λ (a : Answer). after go t a s.receiver s.store s.output) (sym e) ∙ p

-- one that is answered leaves the train this way, whether it then stops or goes on
module _ (go : Train → Train) (t : Train) (s : Step) (whole : Train) (x : Option Reported) (m : Option ℕ) (p : after go t s.answer s.receiver s.store s.output ≡ whole) (e : s.answer ≡ answered x m) where
  pub answered_next : cond (stops x m s.receiver) (train 0 s.receiver s.store s.output (t.received + 1) x m) (go (train 0 s.receiver s.store s.output (t.received + 1) x m)) ≡ whole
  answered_next = ap (λ (a : Answer). after go t a s.receiver s.store s.output) (sym e) ∙ p

  -- a reception that ends the train
  pub train_carries : stops x m s.receiver ≡ true → train 0 s.receiver s.store s.output (t.received + 1) x m ≡ whole
  train_carries q =
      ap (λ (b : Bool). cond b (train 0 s.receiver s.store s.output (t.received + 1) x m) (go (train 0 s.receiver s.store s.output (t.received + 1) x m))) (sym q)
      ∙ answered_next

  -- and one that lets it go on
  pub train_goes : stops x m s.receiver ≡ false → go (train 0 s.receiver s.store s.output (t.received + 1) x m) ≡ whole
  train_goes q =
      ap (λ (b : Bool). cond b (train 0 s.receiver s.store s.output (t.received + 1) x m) (go (train 0 s.receiver s.store s.output (t.received + 1) x m))) (sym q)
      ∙ answered_next

-- ---- the call

-- TRAIN, written in two parts
pub train_put : (l x y : List ℕ) (n : ℕ) (response : Option Reported) (message : Option ℕ) → x ≡ sets l 0 (spell 8 n) → y ≡ sets x 8 (reception_image response message)
    → y ≡ sets l 0 (train_image n response message)
unfolding train_image
train_put l x y n response message p q = put_next l 0 (spell 8 n) (reception_image response message) x y 8 8 p (length_spell 8 n) refl q

apart : {A : Type 0} {o : Option A} {x : A} → o ≡ Some x → o ≡ None → ⊥
apart p q = let z : ◌≡◌ {A = ℕ} 0 1 = cc in omega arith

module _ (a : Asked) where
  -- a test refuses it
  pub train_refused : (x : Refusal) → refusal (train_tests a) ≡ Some x → Met a (call (code_of x) a.image a.store a.output a.answer)
  unfolding train_call
  train_refused x e = (
    ap (λ (o : Option Refusal). unless_refused o (λ n. call n a.image a.store a.output a.answer) (train_done a (train_asked a))) (sym e),
    record { whole = λ p. absurd (apart e p); next = λ p. absurd (apart e p) },
  )

  -- the train was walked from the record and the protocol that were read
  pub train_walked : (t : Train) (r : Receiver) (p : HigherLayerProtocol) → r ≡ record_of a.image → p ≡ protocol_of a.protocol a.octet
      → t ≡ train_of a.peer p a.reading (segments_of (length a.lengths / 2) a.lengths a.octets) (start_of r a.store a.output) → t ≡ train_asked a
  train_walked t r p u v e =
      e
      ∙ ap₂ (λ (x : Receiver) (y : HigherLayerProtocol). train_of a.peer y a.reading (segments_of (length a.lengths / 2) a.lengths a.octets) (start_of x a.store a.output)) u v

  -- then record and answer were written
  pub train_done_lem : (t : Train) (image answer : List ℕ) → refusal (train_tests a) ≡ None → 3931 ≤ length a.image → t ≡ train_asked a → ReceiverFits t.receiver
      → image ≡ sets a.image 0 (image_of t.receiver) → answer ≡ sets a.answer 0 (train_image t.received t.response t.message)
      → Met a (call t.code image t.store t.output answer)
  unfolding train_call
  train_done_lem t image answer e room p f u v =
      let w = put_spells receiver_layout a.image t.receiver image room f u in (
        ap₂ (λ (i o : List ℕ). call t.code i t.store t.output o) u v ∙ ap (train_done a) p
            ∙ ap (λ (o : Option Refusal). unless_refused o (λ n. call n a.image a.store a.output a.answer) (train_done a (train_asked a))) (sym e),
        record { whole = λ z. w.1; next = λ z. w.0 ∙ ap (λ (x : Train). x.receiver) p },
      )
