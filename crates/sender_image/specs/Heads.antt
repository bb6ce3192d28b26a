-- The first 174 octets of a sender: layout version (the number 2), terms (22), progress (151). Assumes nothing.
use Rattle.std.specs.Prelude.{◌≡◌, Bool, drop, Option}
use Rattle.std.proofs.Math.Path.{refl, ap, ap₂}
use Rattle.std.proofs.Common.{sym, ◌∙◌, drop-drop, get_or-drop}
use mathlib.Core.List.{List, [], ◌∷◌, ◌++◌, append_assoc}
use Prim.Native.Nat.{ℕ, suc, ◌+◌, ◌<◌}
use Rattle.std.proofs.Math.ListN.{length, get_or, length-append}
use Rattle.std.proofs.Math.Seq.{sets}
use Rattle.words.specs.declared.Words.{Words}
use Rattle.link.specs.declared.MobileIdentity.{MobileIdentity}
use Rattle.link.specs.declared.HigherLayerProtocol.{HigherLayerProtocol}
use Rattle.sender.specs.declared.SenderState.{SenderState}
use Rattle.sender.specs.declared.Submission.{Submission}
use Rattle.sender.specs.declared.Terms.{Terms}
use Rattle.sender.specs.declared.Progress.{Progress}
use Rattle.image.specs.Spelling.{spells, Layout, spell_octet, read_octet, AnyOctet, octet_layout, spell_both, read_both, both_layout, as_layout, put_next}
use Rattle.image.specs.Numbers.{spell, number_of, number_layout}
use Rattle.image_link.specs.Peers.{peer_image, peer_of, PeerFits, peer_layout, protocol_image, protocol_in, AnyProtocol, protocol_layout}
use Rattle.image_link.specs.Marks.{marks_image, marks_of, MarksFit, marks_wide, marks_layout}
use Rattle.sender_image.specs.States.{state_image, state_from, state_of, StateFits, state_layout}
use Rattle.sender_image.specs.Parts.{current_image, current_of, CurrentFits, current_layout, submission_image, deadline_image, deadline_from, deadline_of, DeadlineFits, deadline_layout}
use Rattle.sender_image.specs.declared.Head.{Head}

abbrev Fit : ℕ → Type 0
Fit x = x < 18446744073709551616

-- ---- terms: peer, protocol, version, profile, sender number

unfoldable pub terms_image : Terms → List ℕ
terms_image t = peer_image t.peer ++ (protocol_image t.protocol ++ (t.version ∷ t.profile ∷ spell 8 t.number))

unfoldable pub terms_of : List ℕ → Terms
terms_of l = record { peer = peer_of l; protocol = protocol_in (drop 10 l); version = get_or l 12 0; profile = get_or l 13 0; number = number_of 8 (drop 14 l) }

pub record TermsFit (t : Terms) : Type 0 where
  pub peer : PeerFits t.peer
  pub number : t.number < 18446744073709551616

abbrev read_terms : List ℕ → MobileIdentity × (HigherLayerProtocol × (ℕ × (ℕ × ℕ)))
read_terms = read_both peer_of 10 (read_both protocol_in 2 (read_both read_octet 1 (read_both read_octet 1 (number_of 8))))

terms_parts_lem : Layout (spell_both peer_image (spell_both protocol_image (spell_both spell_octet (spell_both spell_octet (spell 8))))) read_terms 22 (λ x. PeerFits x.0 × (AnyProtocol x.1.0 × (AnyOctet x.1.1.0 × (AnyOctet x.1.1.1.0 × Fit x.1.1.1.1))))
terms_parts_lem = both_layout peer_layout (both_layout protocol_layout (both_layout octet_layout (both_layout octet_layout (number_layout 8))))

terms_reads : (l : List ℕ) → terms_of l ≡ record { peer = (read_terms l).0; protocol = (read_terms l).1.0; version = (read_terms l).1.1.0; profile = (read_terms l).1.1.1.0; number = (read_terms l).1.1.1.1 }
unfolding terms_of
terms_reads l =
    let a : drop 12 l ≡ drop 2 (drop 10 l) = sym (drop-drop 2 10 l) in
    let b : drop 13 l ≡ drop 1 (drop 2 (drop 10 l)) = sym (drop-drop 1 12 l) ∙ ap (drop 1) a in
    let c : drop 14 l ≡ drop 1 (drop 1 (drop 2 (drop 10 l))) = sym (drop-drop 1 13 l) ∙ ap (drop 1) b in
    let e : get_or l 12 0 ≡ get_or (drop 2 (drop 10 l)) 0 0 = sym (get_or-drop 12 l 0 0) ∙ ap (λ (m : List ℕ). get_or m 0 0) a in
    let f : get_or l 13 0 ≡ get_or (drop 1 (drop 2 (drop 10 l))) 0 0 = sym (get_or-drop 13 l 0 0) ∙ ap (λ (m : List ℕ). get_or m 0 0) b in
    λ i. record { peer = peer_of l; protocol = protocol_in (drop 10 l); version = e i; profile = f i; number = number_of 8 (c i) }

terms_read_wide : (l : List ℕ) → length (terms_image (terms_of l)) ≡ 22
unfolding terms_image
terms_read_wide l = ap (λ (t : Terms). length (terms_image t)) (terms_reads l) ∙ terms_parts_lem.reads_wide l

pub terms_layout : Layout terms_image terms_of 22 TermsFit
unfolding terms_image
terms_layout =
    as_layout terms_parts_lem (λ x. record { peer = x.0; protocol = x.1.0; version = x.1.1.0; profile = x.1.1.1.0; number = x.1.1.1.1 }) (λ t. (t.peer, (t.protocol, (t.version, (t.profile, t.number)))))
    (λ t. refl) terms_image terms_of TermsFit (λ t. refl) terms_reads (λ t f. (f.peer, (tt, (tt, (tt, f.number))))) terms_read_wide

-- ---- progress: state, submission, last ticket; three times marks; deadline, last reading, submissions

unfoldable pub standing_image : Progress → List ℕ
standing_image p = state_image p.state ++ (current_image p.current ++ spell 8 p.last_ticket)

unfoldable pub marked_image : Progress → List ℕ
marked_image p = marks_image p.submitted ++ (marks_image p.retry ++ marks_image p.received)

unfoldable pub times_image : Progress → List ℕ
times_image p = deadline_image p.deadline_monotonic_ms ++ (spell 8 p.last_monotonic_ms ++ spell 8 p.layer3_submissions)

unfoldable pub progress_image : Progress → List ℕ
progress_image p = standing_image p ++ (marked_image p ++ times_image p)

unfoldable pub progress_of : List ℕ → Progress
progress_of l =
    record {
      state = state_of l;
      current = current_of (drop 4 l);
      last_ticket = number_of 8 (drop 22 l);
      submitted = marks_of (drop 30 l);
      retry = marks_of (drop 62 l);
      received = marks_of (drop 94 l);
      deadline_monotonic_ms = deadline_of (drop 126 l);
      last_monotonic_ms = number_of 8 (drop 135 l);
      layer3_submissions = number_of 8 (drop 143 l);
    }

pub record StandingFits (p : Progress) : Type 0 where
  pub current : CurrentFits p.current
  pub ticket : p.last_ticket < 18446744073709551616

pub record MarkedFit (p : Progress) : Type 0 where
  pub submitted : MarksFit p.submitted
  pub retry : MarksFit p.retry
  pub received : MarksFit p.received

pub record TimesFit (p : Progress) : Type 0 where
  pub deadline : DeadlineFits p.deadline_monotonic_ms
  pub last : p.last_monotonic_ms < 18446744073709551616
  pub submissions : p.layer3_submissions < 18446744073709551616

pub record ProgressFits (p : Progress) : Type 0 where
  pub standing : StandingFits p
  pub marks : MarkedFit p
  pub times : TimesFit p

abbrev Standing : Type 0
Standing = SenderState × (Option Submission × ℕ)

abbrev Marked : Type 0
Marked = Words × (Words × Words)

abbrev Times : Type 0
Times = Option ℕ × (ℕ × ℕ)

abbrev read_standing : List ℕ → Standing
read_standing = read_both state_of 4 (read_both current_of 18 (number_of 8))

abbrev read_marked : List ℕ → Marked
read_marked = read_both marks_of 32 (read_both marks_of 32 marks_of)

abbrev read_times : List ℕ → Times
read_times = read_both deadline_of 9 (read_both (number_of 8) 8 (number_of 8))

abbrev read_progress : List ℕ → Standing × (Marked × Times)
read_progress = read_both read_standing 30 (read_both read_marked 96 read_times)

abbrev standing_parts : Layout (spell_both state_image (spell_both current_image (spell 8))) read_standing 30 (λ x. StateFits x.0 × (CurrentFits x.1.0 × Fit x.1.1))
standing_parts = both_layout state_layout (both_layout current_layout (number_layout 8))

abbrev marked_parts : Layout (spell_both marks_image (spell_both marks_image marks_image)) read_marked 96 (λ x. MarksFit x.0 × (MarksFit x.1.0 × MarksFit x.1.1))
marked_parts = both_layout marks_layout (both_layout marks_layout marks_layout)

abbrev times_parts : Layout (spell_both deadline_image (spell_both (spell 8) (spell 8))) read_times 25 (λ x. DeadlineFits x.0 × (Fit x.1.0 × Fit x.1.1))
times_parts = both_layout deadline_layout (both_layout (number_layout 8) (number_layout 8))

abbrev progress_from : Standing × (Marked × Times) → Progress
progress_from x =
    record {
      state = x.0.0;
      current = x.0.1.0;
      last_ticket = x.0.1.1;
      submitted = x.1.0.0;
      retry = x.1.0.1.0;
      received = x.1.0.1.1;
      deadline_monotonic_ms = x.1.1.0;
      last_monotonic_ms = x.1.1.1.0;
      layer3_submissions = x.1.1.1.1;
    }

abbrev progress_parts : Progress → Standing × (Marked × Times)
progress_parts p =
    ((p.state, (p.current, p.last_ticket)), ((p.submitted, (p.retry, p.received)), (p.deadline_monotonic_ms, (p.last_monotonic_ms, p.layer3_submissions))))

progress_reads : (l : List ℕ) → progress_of l ≡ progress_from (read_progress l)
unfolding progress_of
progress_reads l =
    let a : drop 22 l ≡ drop 18 (drop 4 l) = sym (drop-drop 18 4 l) in
    let b : drop 62 l ≡ drop 32 (drop 30 l) = sym (drop-drop 32 30 l) in
    let c : drop 94 l ≡ drop 32 (drop 32 (drop 30 l)) = sym (drop-drop 32 62 l) ∙ ap (drop 32) b in
    let d : drop 126 l ≡ drop 96 (drop 30 l) = sym (drop-drop 96 30 l) in
    let e : drop 135 l ≡ drop 9 (drop 96 (drop 30 l)) = sym (drop-drop 9 126 l) ∙ ap (drop 9) d in
    let f : drop 143 l ≡ drop 8 (drop 9 (drop 96 (drop 30 l))) = sym (drop-drop 8 135 l) ∙ ap (drop 8) e in
    λ i. record {
      state = state_of l;
      current = current_of (drop 4 l);
      last_ticket = number_of 8 (a i);
      submitted = marks_of (drop 30 l);
      retry = marks_of (b i);
      received = marks_of (c i);
      deadline_monotonic_ms = deadline_of (d i);
      last_monotonic_ms = number_of 8 (e i);
      layer3_submissions = number_of 8 (f i);
    }

progress_read_wide : (l : List ℕ) → length (progress_image (progress_of l)) ≡ 151
unfolding progress_image standing_image marked_image times_image
progress_read_wide l = ap (λ (p : Progress). length (progress_image p)) (progress_reads l) ∙ (both_layout standing_parts (both_layout marked_parts times_parts)).reads_wide l

pub progress_layout : Layout progress_image progress_of 151 ProgressFits
unfolding progress_image standing_image marked_image times_image
progress_layout =
    as_layout (both_layout standing_parts (both_layout marked_parts times_parts)) progress_from progress_parts (λ p. refl) progress_image progress_of ProgressFits (λ p. refl) progress_reads
    (λ p f. (
      (tt, (f.standing.current, f.standing.ticket)),
      ((f.marks.submitted, (f.marks.retry, f.marks.received)), (f.times.deadline, (f.times.last, f.times.submissions))),
    )) progress_read_wide

-- ---- the head

unfoldable pub head_image : Head → List ℕ
head_image h = 2 ∷ (terms_image h.terms ++ progress_image h.progress)

unfoldable pub head_of : List ℕ → Head
head_of l = record { terms = terms_of (drop 1 l); progress = progress_of (drop 23 l) }

-- whether 174 octets spell a head
abbrev pub head_ok : List ℕ → Bool
head_ok l = spells head_image head_of 174 l

pub record HeadFits (h : Head) : Type 0 where
  pub terms : TermsFit h.terms
  pub progress : ProgressFits h.progress

abbrev read_head : List ℕ → ℕ × (Terms × Progress)
read_head = read_both read_octet 1 (read_both terms_of 22 progress_of)

head_parts : Layout (spell_both spell_octet (spell_both terms_image progress_image)) read_head 174 (λ x. AnyOctet x.0 × (TermsFit x.1.0 × ProgressFits x.1.1))
head_parts = both_layout octet_layout (both_layout terms_layout progress_layout)

head_reads : (l : List ℕ) → head_of l ≡ record { terms = (read_head l).1.0; progress = (read_head l).1.1 }
unfolding head_of
head_reads l = simp drop-drop

head_read_wide : (l : List ℕ) → length (head_image (head_of l)) ≡ 174
unfolding head_image
head_read_wide l = ap (λ (h : Head). length (head_image h)) (head_reads l) ∙ head_parts.reads_wide l

pub head_layout : Layout head_image head_of 174 HeadFits
unfolding head_image
head_layout =
    as_layout head_parts (λ x. record { terms = x.1.0; progress = x.1.1 }) (λ h. (2, (h.terms, h.progress))) (λ h. refl) head_image head_of HeadFits (λ h. refl) head_reads
    (λ h f. (tt, (f.terms, f.progress))) head_read_wide

-- ---- as code writes it, part by part

module _ (l : List ℕ) (at : ℕ) (t : Terms) (p x y z : List ℕ) where
  pub terms_put : p ≡ protocol_image t.protocol → x ≡ sets l at (peer_image t.peer) → y ≡ sets x (at + 10) (get_or p 0 0 ∷ get_or p 1 0 ∷ t.version ∷ t.profile ∷ [])
      → z ≡ sets y (at + 14) (spell 8 t.number) → z ≡ sets l at (terms_image t)
  unfolding terms_image peer_image protocol_image spell
  terms_put e p q r =
      let a : List ℕ = peer_image t.peer in
      let b : List ℕ = protocol_image t.protocol ++ (t.version ∷ t.profile ∷ []) in
      let q' : y ≡ sets x (at + 10) b = q ∙ ap (λ (m : List ℕ). sets x (at + 10) (get_or m 0 0 ∷ get_or m 1 0 ∷ t.version ∷ t.profile ∷ [])) e in
      let two : y ≡ sets l at (a ++ b) = put_next l at a b x y (at + 10) 10 p refl refl q' in
      put_next l at (a ++ b) (spell 8 t.number) y z (at + 14) 14 two refl refl r

module _ (l : List ℕ) (at : ℕ) (p : Progress) where
  pub standing_put : (x y z : List ℕ) → x ≡ sets l at (state_image p.state) → y ≡ sets x (at + 4) (current_image p.current) → z ≡ sets y (at + 22) (spell 8 p.last_ticket)
      → z ≡ sets l at (standing_image p)
  unfolding standing_image state_image current_image submission_image spell
  standing_put x y z a b c =
      let s : List ℕ = state_image p.state in
      let d : List ℕ = current_image p.current in
      let two : y ≡ sets l at (s ++ d) = put_next l at s d x y (at + 4) 4 a refl refl b in
      put_next l at (s ++ d) (spell 8 p.last_ticket) y z (at + 22) 22 two refl refl c

  pub marked_put : (x y z : List ℕ) → x ≡ sets l at (marks_image p.submitted) → y ≡ sets x (at + 32) (marks_image p.retry) → z ≡ sets y (at + 64) (marks_image p.received)
      → z ≡ sets l at (marked_image p)
  unfolding marked_image
  marked_put x y z a b c =
      let s : List ℕ = marks_image p.submitted in
      let r : List ℕ = marks_image p.retry in
      let n : length (s ++ r) ≡ 64 = length-append s r ∙ ap₂ (λ (i j : ℕ). i + j) (marks_wide p.submitted) (marks_wide p.retry) in
      let two : y ≡ sets l at (s ++ r) = put_next l at s r x y (at + 32) 32 a (marks_wide p.submitted) refl b in
      put_next l at (s ++ r) (marks_image p.received) y z (at + 64) 64 two n refl c ∙ ap (sets l at) (append_assoc s r (marks_image p.received))

  pub times_put : (x y z : List ℕ) → x ≡ sets l at (deadline_image p.deadline_monotonic_ms) → y ≡ sets x (at + 9) (spell 8 p.last_monotonic_ms)
      → z ≡ sets y (at + 17) (spell 8 p.layer3_submissions) → z ≡ sets l at (times_image p)
  unfolding times_image deadline_image spell
  times_put x y z a b c =
      let d : List ℕ = deadline_image p.deadline_monotonic_ms in
      let t : List ℕ = spell 8 p.last_monotonic_ms in
      let two : y ≡ sets l at (d ++ t) = put_next l at d t x y (at + 9) 9 a refl refl b in
      put_next l at (d ++ t) (spell 8 p.layer3_submissions) y z (at + 17) 17 two refl refl c

  standing_wide : length (standing_image p) ≡ 30
  unfolding standing_image state_image current_image submission_image spell
  standing_wide = refl

  marked_wide : length (marked_image p) ≡ 96
  unfolding marked_image marks_image spell
  marked_wide = refl

  pub progress_put : (x y z : List ℕ) → x ≡ sets l at (standing_image p) → y ≡ sets x (at + 30) (marked_image p) → z ≡ sets y (at + 126) (times_image p) → z ≡ sets l at (progress_image p)
  unfolding progress_image
  progress_put x y z a b c =
      let s : List ℕ = standing_image p in
      let m : List ℕ = marked_image p in
      let n : length (s ++ m) ≡ 126 = length-append s m ∙ ap₂ (λ (i j : ℕ). i + j) standing_wide marked_wide in
      let two : y ≡ sets l at (s ++ m) = put_next l at s m x y (at + 30) 30 a standing_wide refl b in
      put_next l at (s ++ m) (times_image p) y z (at + 126) 126 two n refl c ∙ ap (sets l at) (append_assoc s m (times_image p))

module _ (l : List ℕ) (h : Head) (x y z : List ℕ) where
  pub head_put : TermsFit h.terms → x ≡ sets l 0 (2 ∷ []) → y ≡ sets x 1 (terms_image h.terms) → z ≡ sets y 23 (progress_image h.progress) → z ≡ sets l 0 (head_image h)
  unfolding head_image
  head_put f a b c =
      let m : List ℕ = terms_image h.terms in
      let n : length (2 ∷ m) ≡ 23 = ap suc (terms_layout.wide h.terms f) in
      let two : y ≡ sets l 0 (2 ∷ m) = put_next l 0 (2 ∷ []) m x y 1 1 a refl refl b in
      put_next l 0 (2 ∷ m) (progress_image h.progress) y z 23 23 two n refl c

-- ---- and reads it, part by part

pub progress_flat : (l : List ℕ)
    → progress_of l
    ≡ record {
      state = state_from (get_or l 0 0) (get_or l 1 0) (get_or l 2 0) (get_or l 3 0);
      current = current_of (drop 4 l);
      last_ticket = number_of 8 (drop 22 l);
      submitted = marks_of (drop 30 l);
      retry = marks_of (drop 62 l);
      received = marks_of (drop 94 l);
      deadline_monotonic_ms = deadline_from (get_or l 126 0) (number_of 8 (drop 127 l));
      last_monotonic_ms = number_of 8 (drop 135 l);
      layer3_submissions = number_of 8 (drop 143 l);
    }
unfolding progress_of state_of deadline_of
progress_flat l = simp (get_or-drop, drop-drop)
