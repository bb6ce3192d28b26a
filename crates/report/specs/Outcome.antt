-- What is said of a section of a capture (docs/CAPTURE.md, 'Sections'): a section is the list of what happened in it, the oldest first.
use Rattle.std.specs.Prelude.{ℕ, Bool, true, false, cond, not, ◌&&◌, ◌||◌, List, [], ◌∷◌, ◌≡◌, eqb, ltb, length, get_or, drop, Option, Some, None}
use Rattle.image.specs.Numbers.{number_of}
use Rattle.report.specs.declared.outcome.Event.{Event}
use Rattle.report.specs.declared.outcome.Event.TheVariants as event
use Rattle.report.specs.declared.outcome.Summary.{Summary}
use Rattle.report.specs.declared.outcome.Told.{Told}

-- ---- the rule

-- whether something was handed over
abbrev pub hands : Option ℕ → Bool
hands None = false
hands (Some n) = true

-- what one event handed over
abbrev pub handed_by : Event → Option ℕ
handed_by (event.Call h f) = h
handed_by event.BadLine = None

-- whether the receiver is Failed after it
abbrev pub fails_at : Event → Bool
fails_at (event.Call h f) = f
fails_at event.BadLine = false

abbrev pub bad_line_of : Event → Bool
bad_line_of (event.Call h f) = false
bad_line_of event.BadLine = true

-- the later of two, where it is something
abbrev pub or_else : Option ℕ → Option ℕ → Option ℕ
or_else None h = h
or_else (Some n) h = Some n

-- what the section handed over: what its last call that handed something over did
unfoldable pub handed_over : List Event → Option ℕ
handed_over [] = None
handed_over (e ∷ es) = or_else (handed_over es) (handed_by e)

-- whether a call left the receiver Failed
unfoldable pub fails : List Event → Bool
fails [] = false
fails (e ∷ es) = fails_at e || fails es

-- whether a call that came after one that handed over left the receiver Failed
unfoldable pub fails_later : List Event → Bool
fails_later [] = false
fails_later (e ∷ es) = cond (hands (handed_by e)) (fails es) (fails_later es)

-- whether a line was refused for its form
unfoldable pub has_bad_line : List Event → Bool
has_bad_line [] = false
has_bad_line (e ∷ es) = bad_line_of e || has_bad_line es

-- a section is rebuilt where a call handed over, no later call left the receiver Failed, and no line was refused for its form
abbrev pub rebuilt : List Event → Bool
rebuilt es = hands (handed_over es) && (not (fails_later es) && not (has_bad_line es))

-- every record is rebuilt where there is a section and each is
unfoldable pub all_rebuilt : List (List Event) → Bool
all_rebuilt [] = true
all_rebuilt (s ∷ ss) = rebuilt s && all_rebuilt ss

abbrev pub is_some : List (List Event) → Bool
is_some [] = false
is_some (s ∷ ss) = true

abbrev pub every_rebuilt : List (List Event) → Bool
every_rebuilt ss = is_some ss && all_rebuilt ss

-- ---- the summary that a program keeps

-- before anything has happened
abbrev pub nothing_yet : Summary
nothing_yet = record { handed = None; failed = false; bad_line = false }

-- after one event more
abbrev pub stepped : Summary → Event → Summary
stepped s (event.Call h f) = record { handed = or_else h s.handed; failed = s.failed || (hands s.handed && f); bad_line = s.bad_line }
stepped s event.BadLine = record { handed = s.handed; failed = s.failed; bad_line = true }

abbrev pub rebuilt_by : Summary → Bool
rebuilt_by s = hands s.handed && (not s.failed && not s.bad_line)

-- of the sections that have ended whether all were rebuilt: before any has ended, and after one more
abbrev pub no_results : Option Bool
no_results = None

abbrev pub with_result : Option Bool → Bool → Option Bool
with_result None b = Some b
with_result (Some all) b = Some (all && b)

abbrev pub every_by : Option Bool → Bool
every_by None = false
every_by (Some all) = all

-- what has been told, at the start, after one event more, and after the section's end
abbrev pub start_of : Told
start_of = record { section = nothing_yet; results = no_results }

abbrev pub noted : Told → Event → Told
noted t e = record { section = stepped t.section e; results = t.results }

abbrev pub ended : Told → Told
ended t = record { section = nothing_yet; results = with_result t.results (rebuilt_by t.section) }

-- through a list of events, and through a list of sections
abbrev pub summed : Summary → List Event → Summary
summed s [] = s
summed s (e ∷ es) = summed (stepped s e) es

abbrev pub noted_all : Told → List Event → Told
noted_all t [] = t
noted_all t (e ∷ es) = noted_all (noted t e) es

abbrev pub told_all : Told → List (List Event) → Told
told_all t [] = t
told_all t (s ∷ ss) = told_all (ended (noted_all t s)) ss

-- ---- what the law of a section says, in both directions

-- a call of the section handed n octets over, and none after it handed anything over
pub data HandsOver : List Event → ℕ → Type 0 where
  here : {n : ℕ} {f : Bool} {es : List Event} → handed_over es ≡ None → HandsOver (event.Call (Some n) f ∷ es) n
  there : {n : ℕ} {e : Event} {es : List Event} → HandsOver es n → HandsOver (e ∷ es) n

-- s is what a program that steps through the section keeps: it has a record exactly when a call of the section handed it over, with that
-- call's octets, and it is rebuilt exactly when, besides, no later call left the receiver Failed and no line was refused for its form
pub record Tells (es : List Event) (s : Summary) : Type 0 where
  pub printed : (n : ℕ) → s.handed ≡ Some n → HandsOver es n
  pub prints : (n : ℕ) → HandsOver es n → s.handed ≡ Some n
  pub clean : rebuilt_by s ≡ true → (hands (handed_over es) ≡ true) × (fails_later es ≡ false) × (has_bad_line es ≡ false)
  pub cleans : hands (handed_over es) ≡ true → fails_later es ≡ false → has_bad_line es ≡ false → rebuilt_by s ≡ true

-- ---- from octets (docs/EXPORTS.md): RECEPTION has how many entries of the response's map are missing from 42 on and the first of them from 44
-- on, the message's flag at 46 and its number of octets from 47 on; RECEIVER has the state at 24, of which 3 is Failed, and the deadline's flag
-- at 42 and the deadline from 43 on; its first octet is 0 where it was not made

-- the number of w octets at a place; 0 past the end
abbrev pub number_at : ℕ → List ℕ → ℕ → ℕ
number_at w l at = cond (ltb (length (drop at l)) w) 0 (number_of w (drop at l))

abbrev pub missing_in : List ℕ → ℕ
missing_in answer = number_at 2 answer 42

abbrev pub first_missing_in : List ℕ → ℕ
first_missing_in answer = number_at 2 answer 44

abbrev pub handed_in : List ℕ → Option ℕ
handed_in answer = cond (eqb (get_or answer 46 0) 0) None (Some (number_at 8 answer 47))

abbrev pub call_event : List ℕ → List ℕ → Event
call_event answer receiver = event.Call (handed_in answer) (eqb (get_or receiver 24 0) 3)

-- whether a reading is past the deadline; at the deadline it is not
abbrev pub past_deadline : ℕ → List ℕ → Bool
past_deadline reading receiver = not (eqb (get_or receiver 0 0) 0) && (not (eqb (get_or receiver 42 0) 0) && ltb (number_at 8 receiver 43) reading)
