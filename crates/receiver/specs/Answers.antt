-- What a call answers and leaves, and the responses that it asks for: document 01, 'Port order' 3, with link/tsar/receiver.rs. Beside each response
-- stand the figures of its map's missing entries: document 02, 2026-01.
use Rattle.std.specs.Prelude.{ℕ, suc, ◌+◌, ◌%◌, min, List, Bool, true, false, cond, not, ◌&&◌, ◌||◌, eqb, leb, Option, Some, None}
use Rattle.words.specs.Marks.{marked, highest_of}
use Rattle.words.specs.declared.Words.{Words}
use Rattle.tsar.specs.Rows.{Refusal}
use Rattle.tsar.specs.Kinds.{is_end, prohibited}
use Rattle.tsar.specs.declared.AcknowledgmentWindow.{AcknowledgmentWindow}
use Rattle.tsar.specs.declared.AcknowledgmentWindow.TheVariants as window
use Rattle.tsar.specs.declared.Segment.{Segment}
use Rattle.response.specs.Responses.{status_number, map_of, figures_of}
use Rattle.response.specs.declared.Status.{Status}
use Rattle.response.specs.declared.Response.{Response}
use Rattle.receiver.specs.declared.Receiver.{Receiver}
use Rattle.receiver.specs.declared.Reported.{Reported}

-- ---- what a call answers and leaves

-- a refusal; or the response with its figures, if one is asked for, and the number of octets of the message that is handed over, if one is
pub data Answer : Type 0 where
  refused : Refusal → Answer
  answered : Option Reported → Option ℕ → Answer

pub record Step : Type 0 where
  pub answer : Answer
  pub receiver : Receiver
  pub store : List ℕ
  pub output : List ℕ

-- a refusal that changes nothing
abbrev pub refuses : Refusal → Receiver → List ℕ → List ℕ → Step
refuses n r store out = record { answer = refused n; receiver = r; store = store; output = out }

-- ---- responses

-- the highest held slot, 0 if there is none
abbrev pub found_or0 : Option ℕ → ℕ
found_or0 None = 0
found_or0 (Some s) = s

abbrev pub highest : Words → ℕ
highest held = found_or0 (highest_of (marked held) 256)

-- the last entry of a map: the end; or the highest held slot, in a timeout answer the one after it, at most 255
abbrev pub last_entry : Bool → Words → Option ℕ → ℕ
last_entry next held (Some e) = e
last_entry next held None = cond next (min (highest held + 1) 255) (highest held)

-- a response with the figures of its map
abbrev pub reported : Response → Reported
reported x = record { response = x; missing = figures_of x.acknowledgments }

-- a response under a window that is not Prohibited
abbrev pub respond : Receiver → Status → Bool → Option Reported
respond r s next =
    cond (prohibited r.progress.services.acknowledgment_window) None
    (Some (reported (record {
      transaction_id = r.terms.transaction_id;
      status = s;
      acknowledgments = map_of (marked r.held) (suc (last_entry next r.held r.progress.end_sequence));
      optional_services_support = None;
    })))

-- the window's period, 0 where it has none
abbrev pub period : AcknowledgmentWindow → ℕ
period window.Prohibited = 0
period window.Every4 = 4
period window.Every8 = 8
period window.Every16 = 16
period window.Last = 0
period window.Exceptions = 0

-- the windows that answer segments
abbrev pub acknowledges : AcknowledgmentWindow → Bool
acknowledges window.Prohibited = false
acknowledges window.Every4 = true
acknowledges window.Every8 = true
acknowledges window.Every16 = true
acknowledges window.Last = true
acknowledges window.Exceptions = false

abbrev pub periodic : AcknowledgmentWindow → ℕ → Bool
periodic w s = not (eqb (period w) 0) && eqb ((s + 1) % period w) 0

-- a response is due to a taken segment: at completion, to an End, and by the window's period
abbrev pub required : Receiver → Segment → Status → Bool
required r x s =
    acknowledges r.progress.services.acknowledgment_window
    && (eqb (status_number s) 10 || is_end x.kind || periodic r.progress.services.acknowledgment_window x.sequence_number)

abbrev pub required_response : Receiver → Segment → Status → Option Reported
required_response r x s = cond (required r x s) (respond r s false) None

-- the support list: encryption and window, only with status 13 and version 5 or more
abbrev pub listed : Bool → Reported → Reported
listed false x = x
listed true x =
    record {
      response = record {
        transaction_id = x.response.transaction_id;
        status = x.response.status;
        acknowledgments = x.response.acknowledgments;
        optional_services_support = Some (record { compression = false; encryption = true; acknowledgment_window = true; crc = false });
      };
      missing = x.missing;
    }

abbrev pub listed_in : Bool → Option Reported → Option Reported
listed_in b None = None
listed_in b (Some x) = Some (listed b x)

-- the response to a failure
abbrev pub fail_response : Receiver → Status → Option Reported
fail_response r s = listed_in (eqb (status_number s) 13 && leb 5 r.terms.version) (respond r s false)
