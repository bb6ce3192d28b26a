-- The first 91 octets of a receiver: layout version (the number 2), terms (23), progress (35), held marks (32). Assumes nothing.
use Rattle.std.specs.Prelude.{◌≡◌, drop, Option}
use Rattle.std.proofs.Math.Path.{refl, ap, ap₂}
use Rattle.std.proofs.Common.{sym, ◌∙◌, length-append, drop-drop, get_or-drop}
use mathlib.Core.List.{List, [], ◌∷◌, ◌++◌, append_assoc}
use Prim.Native.Nat.{ℕ, suc, ◌+◌, ◌<◌}
use Rattle.std.proofs.Math.ListN.{length, get_or}
use Rattle.std.proofs.Math.Seq.{sets}
use Rattle.words.specs.declared.Words.{Words}
use Rattle.tsar.specs.declared.OptionalServices.{OptionalServices}
use Rattle.link.specs.declared.MobileIdentity.{MobileIdentity}
use Rattle.link.specs.declared.HigherLayerProtocol.{HigherLayerProtocol}
use Rattle.receiver.specs.declared.ReceiverState.{ReceiverState}
use Rattle.receiver.specs.declared.Terms.{Terms}
use Rattle.receiver.specs.declared.Progress.{Progress}
use Rattle.image.specs.Spelling.{Layout, spell_octet, read_octet, AnyOctet, octet_layout, spell_both, read_both, both_layout, as_layout, put_next}
use Rattle.image.specs.Numbers.{spell, number_of, number_layout}
use Rattle.image.specs.Segments.{length_image, length_from, length_of, LengthFits, length_layout, optional_image, optional_from, optional_of, AnyOptional, optional_layout}
use Rattle.image_link.specs.Peers.{peer_image, peer_of, PeerFits, peer_layout, protocol_image, protocol_in, AnyProtocol, protocol_layout}
use Rattle.image_link.specs.Marks.{marks_image, marks_of, MarksFit, marks_layout}
use Rattle.receiver_image.specs.Parts.{state_image, state_from, state_of, AnyState, state_layout, end_image, end_from, end_of, AnyEnd, end_layout, deadline_image, deadline_from, deadline_of, DeadlineFits, deadline_layout}
use Rattle.receiver_image.specs.declared.Head.{Head}

abbrev Fit : ℕ → Type 0
Fit x = x < 18446744073709551616

-- ---- terms: peer, protocol, transaction, version, profile, maximum

unfoldable pub terms_image : Terms → List ℕ
terms_image t =
    peer_image t.peer ++ (protocol_image t.protocol ++ (t.transaction_id ∷ t.version ∷ t.profile ∷ spell 8 t.maximum_message_octets))

unfoldable pub terms_of : List ℕ → Terms
terms_of l =
    record {
      peer = peer_of l;
      protocol = protocol_in (drop 10 l);
      transaction_id = get_or l 12 0;
      version = get_or l 13 0;
      profile = get_or l 14 0;
      maximum_message_octets = number_of 8 (drop 15 l);
    }

pub record TermsFit (t : Terms) : Type 0 where
  pub peer : PeerFits t.peer
  pub maximum : t.maximum_message_octets < 18446744073709551616

abbrev TermsParts : Type 0
TermsParts = MobileIdentity × (HigherLayerProtocol × (ℕ × (ℕ × (ℕ × ℕ))))

abbrev terms_from : TermsParts → Terms
terms_from x = record { peer = x.0; protocol = x.1.0; transaction_id = x.1.1.0; version = x.1.1.1.0; profile = x.1.1.1.1.0; maximum_message_octets = x.1.1.1.1.1 }

abbrev terms_parts : Terms → TermsParts
terms_parts t = (t.peer, (t.protocol, (t.transaction_id, (t.version, (t.profile, t.maximum_message_octets)))))

abbrev read_terms : List ℕ → TermsParts
read_terms = read_both peer_of 10 (read_both protocol_in 2 (read_both read_octet 1 (read_both read_octet 1 (read_both read_octet 1 (number_of 8)))))

terms_parts_lem : Layout (spell_both peer_image (spell_both protocol_image (spell_both spell_octet (spell_both spell_octet (spell_both spell_octet (spell 8)))))) read_terms 23 (λ x. PeerFits x.0 × (AnyProtocol x.1.0 × (AnyOctet x.1.1.0 × (AnyOctet x.1.1.1.0 × (AnyOctet x.1.1.1.1.0 × Fit x.1.1.1.1.1)))))
terms_parts_lem = both_layout peer_layout (both_layout protocol_layout (both_layout octet_layout (both_layout octet_layout (both_layout octet_layout (number_layout 8)))))

terms_reads : (l : List ℕ) → terms_of l ≡ terms_from (read_terms l)
unfolding terms_of
terms_reads l =
    let a : drop 12 l ≡ drop 2 (drop 10 l) = sym (drop-drop 2 10 l) in
    let b : drop 13 l ≡ drop 1 (drop 2 (drop 10 l)) = sym (drop-drop 1 12 l) ∙ ap (drop 1) a in
    let c : drop 14 l ≡ drop 1 (drop 1 (drop 2 (drop 10 l))) = sym (drop-drop 1 13 l) ∙ ap (drop 1) b in
    let d : drop 15 l ≡ drop 1 (drop 1 (drop 1 (drop 2 (drop 10 l)))) = sym (drop-drop 1 14 l) ∙ ap (drop 1) c in
    let e : get_or l 12 0 ≡ get_or (drop 2 (drop 10 l)) 0 0 = sym (get_or-drop 12 l 0 0) ∙ ap (λ (m : List ℕ). get_or m 0 0) a in
    let f : get_or l 13 0 ≡ get_or (drop 1 (drop 2 (drop 10 l))) 0 0 = sym (get_or-drop 13 l 0 0) ∙ ap (λ (m : List ℕ). get_or m 0 0) b in
    let g : get_or l 14 0 ≡ get_or (drop 1 (drop 1 (drop 2 (drop 10 l)))) 0 0 = sym (get_or-drop 14 l 0 0) ∙ ap (λ (m : List ℕ). get_or m 0 0) c in
    λ i. record { peer = peer_of l; protocol = protocol_in (drop 10 l); transaction_id = e i; version = f i; profile = g i; maximum_message_octets = number_of 8 (d i) }

terms_read_wide : (l : List ℕ) → length (terms_image (terms_of l)) ≡ 23
unfolding terms_image
terms_read_wide l = ap (λ (t : Terms). length (terms_image t)) (terms_reads l) ∙ terms_parts_lem.reads_wide l

pub terms_layout : Layout terms_image terms_of 23 TermsFit
unfolding terms_image
terms_layout = as_layout terms_parts_lem terms_from terms_parts (λ t. refl) terms_image terms_of TermsFit (λ t. refl) terms_reads (λ t f. (f.peer, (tt, (tt, (tt, (tt, f.maximum)))))) terms_read_wide

-- ---- progress: state, services, end, stated length; stored octets, deadline, last reading

unfoldable pub standing_image : Progress → List ℕ
standing_image p = state_image p.state ++ (optional_image p.services ++ (end_image p.end_sequence ++ length_image p.message_length))

unfoldable pub times_image : Progress → List ℕ
times_image p = spell 8 p.stored_octets ++ (deadline_image p.deadline_monotonic_ms ++ spell 8 p.last_monotonic_ms)

unfoldable pub progress_image : Progress → List ℕ
progress_image p = standing_image p ++ times_image p

unfoldable pub progress_of : List ℕ → Progress
progress_of l =
    record {
      state = state_of l;
      services = optional_of (drop 2 l);
      end_sequence = end_of (drop 5 l);
      message_length = length_of (drop 7 l);
      stored_octets = number_of 8 (drop 10 l);
      deadline_monotonic_ms = deadline_of (drop 18 l);
      last_monotonic_ms = number_of 8 (drop 27 l);
    }

pub record ProgressFits (p : Progress) : Type 0 where
  pub stated : LengthFits p.message_length
  pub stored : p.stored_octets < 18446744073709551616
  pub deadline : DeadlineFits p.deadline_monotonic_ms
  pub last : p.last_monotonic_ms < 18446744073709551616

abbrev Standing : Type 0
Standing = ReceiverState × (OptionalServices × (Option ℕ × Option ℕ))

abbrev Times : Type 0
Times = ℕ × (Option ℕ × ℕ)

abbrev read_standing : List ℕ → Standing
read_standing = read_both state_of 2 (read_both optional_of 3 (read_both end_of 2 length_of))

abbrev read_times : List ℕ → Times
read_times = read_both (number_of 8) 8 (read_both deadline_of 9 (number_of 8))

abbrev standing_parts : Layout (spell_both state_image (spell_both optional_image (spell_both end_image length_image))) read_standing 10 (λ x. AnyState x.0 × (AnyOptional x.1.0 × (AnyEnd x.1.1.0 × LengthFits x.1.1.1)))
standing_parts = both_layout state_layout (both_layout optional_layout (both_layout end_layout length_layout))

abbrev times_parts : Layout (spell_both (spell 8) (spell_both deadline_image (spell 8))) read_times 25 (λ x. Fit x.0 × (DeadlineFits x.1.0 × Fit x.1.1))
times_parts = both_layout (number_layout 8) (both_layout deadline_layout (number_layout 8))

abbrev progress_from : Standing × Times → Progress
progress_from x =
    record {
      state = x.0.0;
      services = x.0.1.0;
      end_sequence = x.0.1.1.0;
      message_length = x.0.1.1.1;
      stored_octets = x.1.0;
      deadline_monotonic_ms = x.1.1.0;
      last_monotonic_ms = x.1.1.1;
    }

abbrev progress_parts : Progress → Standing × Times
progress_parts p =
    ((p.state, (p.services, (p.end_sequence, p.message_length))), (p.stored_octets, (p.deadline_monotonic_ms, p.last_monotonic_ms)))

progress_reads : (l : List ℕ) → progress_of l ≡ progress_from (read_both read_standing 10 read_times l)
unfolding progress_of
progress_reads l = simp drop-drop

progress_read_wide : (l : List ℕ) → length (progress_image (progress_of l)) ≡ 35
unfolding progress_image standing_image times_image
progress_read_wide l = ap (λ (p : Progress). length (progress_image p)) (progress_reads l) ∙ (both_layout standing_parts times_parts).reads_wide l

pub progress_layout : Layout progress_image progress_of 35 ProgressFits
unfolding progress_image standing_image times_image
progress_layout =
    as_layout (both_layout standing_parts times_parts) progress_from progress_parts (λ p. refl) progress_image progress_of ProgressFits (λ p. refl) progress_reads
    (λ p f. ((tt, (tt, (tt, f.stated))), (f.stored, (f.deadline, f.last)))) progress_read_wide

-- what code says of the numbers of its second half
pub record TimesFit (p : Progress) : Type 0 where
  pub stored : p.stored_octets < 18446744073709551616
  pub deadline : DeadlineFits p.deadline_monotonic_ms
  pub last : p.last_monotonic_ms < 18446744073709551616

-- ---- the head

unfoldable pub head_image : Head → List ℕ
head_image h = 2 ∷ (terms_image h.terms ++ (progress_image h.progress ++ marks_image h.held))

unfoldable pub head_of : List ℕ → Head
head_of l = record { terms = terms_of (drop 1 l); progress = progress_of (drop 24 l); held = marks_of (drop 59 l) }

pub record HeadFits (h : Head) : Type 0 where
  pub terms : TermsFit h.terms
  pub progress : ProgressFits h.progress
  pub held : MarksFit h.held

abbrev read_head : List ℕ → ℕ × (Terms × (Progress × Words))
read_head = read_both read_octet 1 (read_both terms_of 23 (read_both progress_of 35 marks_of))

head_parts : Layout (spell_both spell_octet (spell_both terms_image (spell_both progress_image marks_image))) read_head 91 (λ x. AnyOctet x.0 × (TermsFit x.1.0 × (ProgressFits x.1.1.0 × MarksFit x.1.1.1)))
head_parts = both_layout octet_layout (both_layout terms_layout (both_layout progress_layout marks_layout))

head_reads : (l : List ℕ) → head_of l ≡ record { terms = (read_head l).1.0; progress = (read_head l).1.1.0; held = (read_head l).1.1.1 }
unfolding head_of
head_reads l = simp drop-drop

head_read_wide : (l : List ℕ) → length (head_image (head_of l)) ≡ 91
unfolding head_image
head_read_wide l = ap (λ (h : Head). length (head_image h)) (head_reads l) ∙ head_parts.reads_wide l

pub head_layout : Layout head_image head_of 91 HeadFits
unfolding head_image
head_layout =
    as_layout head_parts (λ x. record { terms = x.1.0; progress = x.1.1.0; held = x.1.1.1 }) (λ h. (2, (h.terms, (h.progress, h.held)))) (λ h. refl) head_image head_of
    HeadFits (λ h. refl) head_reads (λ h f. (tt, (f.terms, (f.progress, f.held)))) head_read_wide

-- ---- as code writes it, part by part

module _ (l : List ℕ) (at : ℕ) (t : Terms) (p x y z : List ℕ) where
  pub terms_put : p ≡ protocol_image t.protocol → x ≡ sets l at (peer_image t.peer)
      → y ≡ sets x (at + 10) (get_or p 0 0 ∷ get_or p 1 0 ∷ t.transaction_id ∷ t.version ∷ t.profile ∷ []) → z ≡ sets y (at + 15) (spell 8 t.maximum_message_octets)
      → z ≡ sets l at (terms_image t)
  unfolding terms_image peer_image protocol_image spell
  terms_put e p q r =
      let a : List ℕ = peer_image t.peer in
      let b : List ℕ = protocol_image t.protocol ++ (t.transaction_id ∷ t.version ∷ t.profile ∷ []) in
      let q' : y ≡ sets x (at + 10) b = q ∙ ap (λ (m : List ℕ). sets x (at + 10) (get_or m 0 0 ∷ get_or m 1 0 ∷ t.transaction_id ∷ t.version ∷ t.profile ∷ [])) e in
      let two : y ≡ sets l at (a ++ b) = put_next l at a b x y (at + 10) 10 p refl refl q' in
      put_next l at (a ++ b) (spell 8 t.maximum_message_octets) y z (at + 15) 15 two refl refl r

module _ (l : List ℕ) (at : ℕ) (p : Progress) where
  pub standing_put : (x y z t : List ℕ) → x ≡ sets l at (state_image p.state) → y ≡ sets x (at + 2) (optional_image p.services) → z ≡ sets y (at + 5) (end_image p.end_sequence)
      → t ≡ sets z (at + 7) (length_image p.message_length) → t ≡ sets l at (standing_image p)
  unfolding standing_image state_image optional_image end_image length_image spell
  standing_put x y z t a b c d =
      let s : List ℕ = state_image p.state in
      let o : List ℕ = optional_image p.services in
      let e : List ℕ = end_image p.end_sequence in
      let two : y ≡ sets l at (s ++ o) = put_next l at s o x y (at + 2) 2 a refl refl b in
      let three : z ≡ sets l at (s ++ o ++ e) = put_next l at (s ++ o) e y z (at + 5) 5 two refl refl c in
      put_next l at (s ++ o ++ e) (length_image p.message_length) z t (at + 7) 7 three refl refl d

  pub times_put : (x y z : List ℕ) → x ≡ sets l at (spell 8 p.stored_octets) → y ≡ sets x (at + 8) (deadline_image p.deadline_monotonic_ms)
      → z ≡ sets y (at + 17) (spell 8 p.last_monotonic_ms) → z ≡ sets l at (times_image p)
  unfolding times_image deadline_image spell
  times_put x y z a b c =
      let s : List ℕ = spell 8 p.stored_octets in
      let d : List ℕ = deadline_image p.deadline_monotonic_ms in
      let two : y ≡ sets l at (s ++ d) = put_next l at s d x y (at + 8) 8 a refl refl b in
      put_next l at (s ++ d) (spell 8 p.last_monotonic_ms) y z (at + 17) 17 two refl refl c

  pub progress_put : (x y : List ℕ) → x ≡ sets l at (standing_image p) → y ≡ sets x (at + 10) (times_image p) → y ≡ sets l at (progress_image p)
  unfolding progress_image standing_image state_image optional_image end_image length_image spell
  progress_put x y a b = put_next l at (standing_image p) (times_image p) x y (at + 10) 10 a refl refl b

module _ (l : List ℕ) (h : Head) (x y z t : List ℕ) where
  pub head_put : HeadFits h → x ≡ sets l 0 (2 ∷ []) → y ≡ sets x 1 (terms_image h.terms) → z ≡ sets y 24 (progress_image h.progress) → t ≡ sets z 59 (marks_image h.held)
      → t ≡ sets l 0 (head_image h)
  unfolding head_image
  head_put f a b c d =
      let m : List ℕ = terms_image h.terms in
      let p : List ℕ = progress_image h.progress in
      let u : length (2 ∷ m) ≡ 24 = ap suc (terms_layout.wide h.terms f.terms) in
      let v : length (2 ∷ (m ++ p)) ≡ 59 = ap suc (length-append m p ∙ ap₂ (λ (i j : ℕ). i + j) (terms_layout.wide h.terms f.terms) (progress_layout.wide h.progress f.progress)) in
      let two : y ≡ sets l 0 (2 ∷ m) = put_next l 0 (2 ∷ []) m x y 1 1 a refl refl b in
      let three : z ≡ sets l 0 (2 ∷ (m ++ p)) = put_next l 0 (2 ∷ m) p y z 24 24 two u refl c in
      put_next l 0 (2 ∷ (m ++ p)) (marks_image h.held) z t 59 59 three v refl d ∙ ap (λ (n : List ℕ). sets l 0 (2 ∷ n)) (append_assoc m p (marks_image h.held))

-- ---- and reads it, octet by octet

pub progress_flat : (l : List ℕ)
    → progress_of l
    ≡ record {
      state = state_from (get_or l 0 0) (get_or l 1 0);
      services = optional_from (get_or l 2 0) (get_or l 3 0) (get_or l 4 0);
      end_sequence = end_from (get_or l 5 0) (get_or l 6 0);
      message_length = length_from (get_or l 7 0) (number_of 2 (drop 8 l));
      stored_octets = number_of 8 (drop 10 l);
      deadline_monotonic_ms = deadline_from (get_or l 18 0) (number_of 8 (drop 19 l));
      last_monotonic_ms = number_of 8 (drop 27 l);
    }
unfolding progress_of state_of optional_of end_of length_of deadline_of
progress_flat l = simp (get_or-drop, drop-drop)
