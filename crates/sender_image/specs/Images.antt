-- The layout SENDER, 6,131 octets: head (174), the plan without its layout version (5,957). Any record whose numbers fit their types is read
-- back as it was, impossible ones too, and what is read and put back changes no octet (sender_layout, with the laws of every layout).
-- Assumes nothing.
use Rattle.std.specs.Prelude.{◌≡◌, Bool, true, ◌&&◌, List, [], ◌++◌, ℕ, ◌≤◌, length, drop}
use Rattle.std.proofs.Math.Path.{refl}
use Rattle.std.proofs.Common.{sym, ap, ◌∙◌, append-nil, arith}
use Rattle.std.proofs.lemmas.List.Edits.{sets}
use Rattle.sender.specs.declared.Plan.{Plan}
use Rattle.sender.specs.declared.Sender.{Sender}
use Rattle.image.specs.Spelling.{spells, Layout, spell_both, read_both, both_layout, both_spells, as_layout, put_next, put_back, spelled_ok}
use Rattle.plan_image.specs.Plans.{body_image, body_of, body_ok, PlanFits, body_layout}
use Rattle.sender_image.specs.Heads.{head_image, head_of, head_ok, HeadFits, head_layout}
use Rattle.sender_image.specs.declared.Head.{Head}

abbrev pub head_in : Sender → Head
head_in s = record { terms = s.terms; progress = s.progress }

abbrev pub sender_of : Head → Plan → Sender
sender_of h p = record { terms = h.terms; progress = h.progress; plan = p }

unfoldable pub image_of : Sender → List ℕ
image_of s = head_image (head_in s) ++ body_image s.plan

unfoldable pub record_of : List ℕ → Sender
record_of l = sender_of (head_of l) (body_of (drop 174 l))

-- whether 6,131 octets spell a sender
abbrev pub image_ok : List ℕ → Bool
image_ok l = spells image_of record_of 6131 l

-- numbers fit their types, and there are 256 heads of a frozen plan
pub record SenderFits (s : Sender) : Type 0 where
  pub head : HeadFits (head_in s)
  pub plan : PlanFits s.plan

-- ---- its laws

parts_layout : Layout (spell_both head_image body_image) (read_both head_of 174 body_of) 6131 (λ x. HeadFits x.0 × PlanFits x.1)
parts_layout = both_layout head_layout body_layout

pub sender_layout : Layout image_of record_of 6131 SenderFits
unfolding image_of record_of
sender_layout =
    as_layout parts_layout (λ x. sender_of x.0 x.1) (λ s. (head_in s, s.plan)) (λ s. refl) image_of record_of SenderFits (λ s. refl) (λ l. refl) (λ s f. (f.head, f.plan))
    (λ l. parts_layout.reads_wide l)

-- ---- what holds of every record whose numbers fit, impossible ones too

-- its octets spell it
pub record_back : (s : Sender) → SenderFits s → record_of (image_of s) ≡ s
record_back s f = ap record_of (sym (append-nil (image_of s))) ∙ sender_layout.back s f []

-- and pass the test
pub image_ok_lem : (s : Sender) → SenderFits s → image_ok (image_of s) ≡ true
image_ok_lem s f = ap image_ok (sym (append-nil (image_of s))) ∙ spelled_ok sender_layout s f []

-- a record that is read off octets that pass and put back changes none of them
pub image_kept : (l : List ℕ) → 6131 ≤ length l → image_ok l ≡ true → sets l 0 (image_of (record_of l)) ≡ l
image_kept l h k = put_back sender_layout l h k

-- ---- as code tests and writes it

-- the test, part by part
pub image_spells : (l : List ℕ) → 6131 ≤ length l → image_ok l ≡ (head_ok l && body_ok (drop 174 l))
unfolding image_of record_of spells
image_spells l h = both_spells head_layout body_layout l (omega arith)

-- written part by part
module _ (l : List ℕ) (s : Sender) (x y : List ℕ) where
  pub image_put : SenderFits s → x ≡ sets l 0 (head_image (head_in s)) → y ≡ sets x 174 (body_image s.plan) → y ≡ sets l 0 (image_of s)
  unfolding image_of
  image_put f a b = put_next l 0 (head_image (head_in s)) (body_image s.plan) x y 174 174 a (head_layout.wide (head_in s) f.head) refl b
