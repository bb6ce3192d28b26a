-- The layout RESPONSE, 41 octets: transaction, status, number of entries, marks, support list. Assumes nothing.
use Rattle.std.specs.Prelude.{◌≡◌, Bool, cond, eqb, get_or, drop, Option, Some, None}
use Rattle.std.proofs.Math.Path.{refl, ap}
use Rattle.std.proofs.Common.{◌∙◌, arith, drop-drop, get_or-drop}
use mathlib.Core.List.{List, [], ◌∷◌, ◌++◌}
use Prim.Native.Nat.{ℕ, ◌+◌, ◌<◌}
use Rattle.std.proofs.Math.ListN.{length, length-append}
use Rattle.std.proofs.Math.Seq.{sets}
use Rattle.words.specs.declared.Words.{Words}
use Rattle.response.specs.Responses.{status_number}
use Rattle.response.specs.declared.Status.{Status}
use Rattle.response.specs.declared.OptionalServicesSupport.{OptionalServicesSupport}
use Rattle.response.specs.declared.Response.{Response}
use Rattle.image.specs.Spelling.{spells, Layout, spell_octet, read_octet, AnyOctet, octet_layout, spell_both, read_both, both_layout, as_layout, put_next}
use Rattle.image.specs.Numbers.{spell, number_of, number_layout, length_spell}
use Rattle.image.specs.Cases.{flag_of, flag_back, status_of, status_back}
use Rattle.image_link.specs.Marks.{marks_image, marks_of, MarksFit, marks_wide, marks_layout}

-- ---- a support list, 5 octets: flag; compression, encryption, window, CRC

unfoldable pub support_image : Option OptionalServicesSupport → List ℕ
support_image None = 0 ∷ 0 ∷ 0 ∷ 0 ∷ 0 ∷ []
support_image (Some s) = 1 ∷ flag_of s.compression ∷ flag_of s.encryption ∷ flag_of s.acknowledgment_window ∷ flag_of s.crc ∷ []

abbrev pub support_from : ℕ → ℕ → ℕ → ℕ → ℕ → Option OptionalServicesSupport
support_from flag a b c d =
    cond (eqb flag 0) None (Some (record { compression = eqb a 1; encryption = eqb b 1; acknowledgment_window = eqb c 1; crc = eqb d 1 }))

unfoldable pub support_of : List ℕ → Option OptionalServicesSupport
support_of l = support_from (get_or l 0 0) (get_or l 1 0) (get_or l 2 0) (get_or l 3 0) (get_or l 4 0)

abbrev pub AnySupport : Option OptionalServicesSupport → Type 0
AnySupport s = Unit {0}

support_wide : (s : Option OptionalServicesSupport) → length (support_image s) ≡ 5
unfolding support_image
support_wide None = refl
support_wide (Some s) = refl

support_back : (s : Option OptionalServicesSupport) → AnySupport s → (rest : List ℕ) → support_of (support_image s ++ rest) ≡ s
unfolding support_image support_of
support_back None f rest = refl
support_back (Some s) f rest =
    ap Some (λ i.
    record {
      compression = flag_back s.compression i;
      encryption = flag_back s.encryption i;
      acknowledgment_window = flag_back s.acknowledgment_window i;
      crc = flag_back s.crc i;
    })

pub support_layout : Layout support_image support_of 5 AnySupport
support_layout = record { wide = λ s f. support_wide s; reads_wide = λ l. support_wide (support_of l); back = support_back }

-- ---- RESPONSE

unfoldable pub response_image : Response → List ℕ
response_image r =
    r.transaction_id ∷ status_number r.status ∷ (spell 2 r.acknowledgments.bit_count ++ (marks_image r.acknowledgments.received ++ support_image r.optional_services_support))

unfoldable pub response_of : List ℕ → Response
response_of l =
    record {
      transaction_id = get_or l 0 0;
      status = status_of (get_or l 1 0);
      acknowledgments = record { received = marks_of (drop 4 l); bit_count = number_of 2 (drop 2 l) };
      optional_services_support = support_of (drop 36 l);
    }

-- whether 41 octets spell a response
abbrev pub response_ok : List ℕ → Bool
response_ok l = spells response_image response_of 41 l

pub record ResponseFits (r : Response) : Type 0 where
  pub entries : r.acknowledgments.bit_count < 65536
  pub marks : MarksFit r.acknowledgments.received

abbrev Parts : Type 0
Parts = ℕ × (ℕ × (ℕ × (Words × Option OptionalServicesSupport)))

abbrev spell_parts : Parts → List ℕ
spell_parts = spell_both spell_octet (spell_both spell_octet (spell_both (spell 2) (spell_both marks_image support_image)))

abbrev read_parts : List ℕ → Parts
read_parts = read_both read_octet 1 (read_both read_octet 1 (read_both (number_of 2) 2 (read_both marks_of 32 support_of)))

parts_layout : Layout spell_parts read_parts 41 (λ x. AnyOctet x.0 × (AnyOctet x.1.0 × ((x.1.1.0 < 65536) × (MarksFit x.1.1.1.0 × AnySupport x.1.1.1.1))))
parts_layout = both_layout octet_layout (both_layout octet_layout (both_layout (number_layout 2) (both_layout marks_layout support_layout)))

abbrev response_from : Parts → Response
response_from x =
    record {
      transaction_id = x.0;
      status = status_of x.1.0;
      acknowledgments = record { received = x.1.1.1.0; bit_count = x.1.1.0 };
      optional_services_support = x.1.1.1.1;
    }

abbrev response_parts : Response → Parts
response_parts r = (r.transaction_id, (status_number r.status, (r.acknowledgments.bit_count, (r.acknowledgments.received, r.optional_services_support))))

abbrev with_status : Response → Status → Response
with_status r s = record { transaction_id = r.transaction_id; status = s; acknowledgments = r.acknowledgments; optional_services_support = r.optional_services_support }

response_reads : (l : List ℕ) → response_of l ≡ response_from (read_parts l)
unfolding response_of
response_reads l = simp (get_or-drop, drop-drop)

response_wide : (r : Response) → length (response_image r) ≡ 41
unfolding response_image
response_wide r =
    let a = length_spell 2 r.acknowledgments.bit_count in
    let b = marks_wide r.acknowledgments.received in
    let c = support_wide r.optional_services_support in
    simp length-append (omega arith)

pub response_layout : Layout response_image response_of 41 ResponseFits
unfolding response_image
response_layout =
    as_layout parts_layout response_from response_parts (λ r. ap (with_status r) (status_back r.status)) response_image response_of ResponseFits (λ r. refl) response_reads
    (λ r f. (tt, (tt, (f.entries, (f.marks, tt))))) (λ l. response_wide (response_of l))

-- ---- as code writes and reads it

-- its first four octets, listed
pub response_front : (r : Response) (status : ℕ) (n : List ℕ) → status ≡ status_number r.status → n ≡ spell 2 r.acknowledgments.bit_count
    → r.transaction_id ∷ status ∷ get_or n 0 0 ∷ get_or n 1 0 ∷ [] ≡ r.transaction_id ∷ status_number r.status ∷ spell 2 r.acknowledgments.bit_count
unfolding spell
response_front r status n p q = rw (p, q)

-- written in three parts
module _ (l : List ℕ) (at : ℕ) (r : Response) (x y z front : List ℕ) where
  pub response_put : front ≡ r.transaction_id ∷ status_number r.status ∷ spell 2 r.acknowledgments.bit_count → x ≡ sets l at front
      → y ≡ sets x (at + 4) (marks_image r.acknowledgments.received) → z ≡ sets y (at + 36) (support_image r.optional_services_support) → z ≡ sets l at (response_image r)
  unfolding response_image spell
  response_put p q s t =
      let a : List ℕ = r.transaction_id ∷ status_number r.status ∷ spell 2 r.acknowledgments.bit_count in
      let b : List ℕ = marks_image r.acknowledgments.received in
      let e : length (a ++ b) ≡ 36 = length-append a b ∙ omega (arith, marks_wide r.acknowledgments.received) in
      let two : y ≡ sets l at (a ++ b) = put_next l at a b x y (at + 4) 4 (q ∙ ap (sets l at) p) refl refl s in
      put_next l at (a ++ b) (support_image r.optional_services_support) y z (at + 36) 36 two e refl t

-- its octets one by one, as code reads them
pub response_flat : (l : List ℕ)
    → response_of l
    ≡ record {
      transaction_id = get_or l 0 0;
      status = status_of (get_or l 1 0);
      acknowledgments = record { received = marks_of (drop 4 l); bit_count = number_of 2 (drop 2 l) };
      optional_services_support = support_from (get_or l 36 0) (get_or l 37 0) (get_or l 38 0) (get_or l 39 0) (get_or l 40 0);
    }
unfolding response_of support_of
response_flat l = simp get_or-drop
