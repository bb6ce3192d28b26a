-- Stepping through a section gives the summary that the section's events say, and going through all sections whether each was rebuilt.
-- Assumes nothing.
use Rattle.std.proofs.Common.{◌≡◌, ℕ, Bool, true, false, cond, not, ◌&&◌, ◌||◌, List, [], ◌∷◌, Option, Some, None, refl, sym, ap, ◌∙◌}
use mathlib.Core.Path.{ap₂}
use mathlib.Core.Bool.{or-true, or-false, or_assoc}
use Rattle.report.specs.declared.outcome.Event.{Event}
use Rattle.report.specs.declared.outcome.Event.TheVariants as event
use Rattle.report.specs.declared.outcome.Summary.{Summary}
use Rattle.report.specs.declared.outcome.Told.{Told}
use Rattle.report.specs.Outcome.{hands, handed_by, bad_line_of, or_else, handed_over, fails, fails_later, has_bad_line, rebuilt, all_rebuilt, every_rebuilt, nothing_yet, stepped, rebuilt_by, with_result, every_by, start_of, noted, ended, summed, noted_all, told_all, HandsOver, here, there, Tells}

-- ---- what was handed over

or_else_assoc : (a b c : Option ℕ) → or_else (or_else a b) c ≡ or_else a (or_else b c)
or_else_assoc None b c = refl
or_else_assoc (Some n) b c = refl

or_nothing : (a : Option ℕ) → or_else a None ≡ a
or_nothing None = refl
or_nothing (Some n) = refl

stepped_handed : (s : Summary) (e : Event) → (stepped s e).handed ≡ or_else (handed_by e) s.handed
stepped_handed s (event.Call h f) = refl
stepped_handed s event.BadLine = refl

summed_handed : (s : Summary) (es : List Event) → (summed s es).handed ≡ or_else (handed_over es) s.handed
unfolding handed_over
summed_handed s [] = refl
summed_handed s (e ∷ es) =
    summed_handed (stepped s e) es ∙ ap (or_else (handed_over es)) (stepped_handed s e) ∙ sym (or_else_assoc (handed_over es) (handed_by e) s.handed)

-- ---- lines refused for their form

stepped_bad : (s : Summary) (e : Event) → (stepped s e).bad_line ≡ (s.bad_line || bad_line_of e)
stepped_bad s (event.Call h f) = sym (or-false s.bad_line)
stepped_bad s event.BadLine = sym (or-true s.bad_line)

summed_bad : (s : Summary) (es : List Event) → (summed s es).bad_line ≡ (s.bad_line || has_bad_line es)
unfolding has_bad_line
summed_bad s [] = sym (or-false s.bad_line)
summed_bad s (e ∷ es) =
    summed_bad (stepped s e) es ∙ ap (λ (b : Bool). b || has_bad_line es) (stepped_bad s e) ∙ or_assoc s.bad_line (bad_line_of e) (has_bad_line es)

-- ---- failures after a hand-over

-- one event, by what was handed over before it: p and q say whether a call of the rest fails, and whether one does after a hand-over
failed_step : (sf p q : Bool) (sh : Option ℕ) (h : Option ℕ) (f : Bool)
    → ((sf || (hands sh && f)) || cond (hands (or_else h sh)) p q) ≡ (sf || cond (hands sh) (f || p) (cond (hands h) p q))
failed_step sf p q None None f = ap (λ (b : Bool). b || q) (or-false sf)
failed_step sf p q None (Some n) f = ap (λ (b : Bool). b || p) (or-false sf)
failed_step sf p q (Some m) None f = or_assoc sf f p
failed_step sf p q (Some m) (Some n) f = or_assoc sf f p

none_fails : (h : Option ℕ) (b : Bool) → b ≡ (b || cond (hands h) false false)
none_fails None b = sym (or-false b)
none_fails (Some n) b = sym (or-false b)

summed_failed : (s : Summary) (es : List Event) → (summed s es).failed ≡ (s.failed || cond (hands s.handed) (fails es) (fails_later es))
unfolding fails fails_later
summed_failed s [] = none_fails s.handed s.failed
summed_failed s (event.Call h f ∷ es) =
    summed_failed (stepped s (event.Call h f)) es ∙ failed_step s.failed (fails es) (fails_later es) s.handed h f
summed_failed s (event.BadLine ∷ es) = summed_failed (stepped s event.BadLine) es

-- ---- a section

pub section_handed : (es : List Event) → (summed nothing_yet es).handed ≡ handed_over es
section_handed es = summed_handed nothing_yet es ∙ or_nothing (handed_over es)

pub section_rebuilt : (es : List Event) → rebuilt_by (summed nothing_yet es) ≡ rebuilt es
section_rebuilt es =
    ap (λ (h : Option ℕ). hands h && (not (summed nothing_yet es).failed && not (summed nothing_yet es).bad_line)) (section_handed es)
    ∙ ap (λ (b : Bool). hands (handed_over es) && (not b && not (summed nothing_yet es).bad_line)) (summed_failed nothing_yet es)
    ∙ ap (λ (b : Bool). hands (handed_over es) && (not (fails_later es) && not b)) (summed_bad nothing_yet es)

-- what was handed over was handed over by a call, and the other way round
handed_found : (es : List Event) (n : ℕ) → handed_over es ≡ Some n → HandsOver es n
unfolding handed_over
handed_found [] n = λ e. cc
handed_found (x ∷ es) n = go (handed_over es) refl x (handed_found es n)
  where
    go : (h : Option ℕ) → handed_over es ≡ h → (y : Event) → (handed_over es ≡ Some n → HandsOver es n) → or_else h (handed_by y) ≡ Some n → HandsOver (y ∷ es) n
    go (Some m) p y rest e = there (rest (p ∙ e))
    go None p (event.Call (Some m) f) rest e = let q : m ≡ n = cc in rw (← q) (here p)
    go None p (event.Call None f) rest e = cc
    go None p event.BadLine rest e = cc

found_handed : {es : List Event} {n : ℕ} → HandsOver es n → handed_over es ≡ Some n
unfolding handed_over
found_handed (here {n} p) = ap (λ (h : Option ℕ). or_else h (Some n)) p
found_handed (there {e = e} r) = ap (λ (h : Option ℕ). or_else h (handed_by e)) (found_handed r)

clean_parts : (a b c : Bool) → (a && (not b && not c)) ≡ true → (a ≡ true) × (b ≡ false) × (c ≡ false)
clean_parts true false false e = (refl, refl, refl)
clean_parts true false true e = cc
clean_parts true true c e = cc
clean_parts false b c e = cc

clean_whole : (a b c : Bool) → a ≡ true → b ≡ false → c ≡ false → (a && (not b && not c)) ≡ true
clean_whole true false false p q r = refl
clean_whole true false true p q r = sym r
clean_whole true true c p q r = sym q
clean_whole false b c p q r = p

pub section_told : (es : List Event) → Tells es (summed nothing_yet es)
section_told es =
    record {
      printed = λ n e. handed_found es n (sym (section_handed es) ∙ e);
      prints = λ n h. section_handed es ∙ found_handed h;
      clean = λ e. clean_parts (hands (handed_over es)) (fails_later es) (has_bad_line es) (sym (section_rebuilt es) ∙ e);
      cleans = λ p q r. section_rebuilt es ∙ clean_whole (hands (handed_over es)) (fails_later es) (has_bad_line es) p q r;
    }

-- ---- all sections

noted_section : (t : Told) (es : List Event) → (noted_all t es).section ≡ summed t.section es
noted_section t [] = refl
noted_section t (e ∷ es) = noted_section (noted t e) es

noted_results : (t : Told) (es : List Event) → (noted_all t es).results ≡ t.results
noted_results t [] = refl
noted_results t (e ∷ es) = noted_results (noted t e) es

-- a section that starts with nothing, ended
ended_section : (t : Told) (es : List Event) → t.section ≡ nothing_yet → (ended (noted_all t es)).results ≡ with_result t.results (rebuilt es)
ended_section t es e =
    ap₂ {C = Option Bool} (λ (r : Option Bool) (s : Summary). with_result r (rebuilt_by s)) (noted_results t es) (noted_section t es ∙ ap (λ (s : Summary). summed s es) e)
    ∙ ap (with_result t.results) (section_rebuilt es)

and_assoc : (a b c : Bool) → ((a && b) && c) ≡ (a && (b && c))
and_assoc true b c = refl
and_assoc false b c = refl

and_true : (a : Bool) → a ≡ (a && true)
and_true true = refl
and_true false = refl

-- sections that follow one that has ended
told_after : (t : Told) (all : Bool) (ss : List (List Event)) → t.section ≡ nothing_yet → t.results ≡ Some all
    → (told_all t ss).results ≡ Some (all && all_rebuilt ss)
unfolding all_rebuilt
told_after t all [] e p = p ∙ ap Some (and_true all)
told_after t all (s ∷ ss) e p =
    told_after (ended (noted_all t s)) (all && rebuilt s) ss refl (ended_section t s e ∙ ap (λ (r : Option Bool). with_result r (rebuilt s)) p)
    ∙ ap Some (and_assoc all (rebuilt s) (all_rebuilt ss))

-- the last line says that every record was rebuilt exactly when there was a section and each was rebuilt
pub every_section : (ss : List (List Event)) → every_by (told_all start_of ss).results ≡ every_rebuilt ss
unfolding all_rebuilt
every_section [] = refl
every_section (s ∷ ss) = ap every_by (told_after (ended (noted_all start_of s)) (rebuilt s) ss refl (ended_section start_of s refl))
