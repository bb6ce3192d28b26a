-- What is printed of a number of things, and of the rule that a segment broke (docs/CAPTURE.md, 'What is printed').
use Rattle.std.specs.Prelude.{ℕ, cond, eqb, List, [], codes, ◌++◌}
use Rattle.std.specs.Fmt.{decimal}
use Rattle.report.specs.declared.reason.Reason.{Reason}
use Rattle.report.specs.declared.reason.Reason.TheVariants as reason
use Rattle.report.specs.declared.say.Counted.{Counted}

-- a number of things by their noun, which has an s unless there is one
abbrev pub number_text : ℕ → List ℕ → List ℕ
number_text n noun = decimal n ++ (codes " " ++ (noun ++ cond (eqb n 1) [] (codes "s")))

abbrev pub counted_text : Counted → List ℕ
counted_text c = number_text c.0 c.1.now

abbrev pub reason_text : Reason → List ℕ
reason_text (reason.HeldWith octets came) = codes "held with " ++ (number_text octets (codes "octet") ++ (codes ", came again with " ++ decimal came))
reason_text (reason.Differs at) = codes "segment " ++ (decimal at ++ codes " came again and differs")
reason_text reason.ContinueAtLast = codes "a Continue at " ++ decimal 255
reason_text reason.BeginCrc = codes "the Begin asks for a CRC"
reason_text reason.EndCrc = codes "the End carries a CRC"
reason_text reason.EndAtZero = codes "an End at 0"
reason_text (reason.SecondEnd at end) = codes "an End at " ++ (decimal at ++ (codes ", but the End is at " ++ decimal end))
reason_text (reason.EndBelow at held) = codes "an End at " ++ (decimal at ++ (codes ", but segment " ++ (decimal held ++ codes " is held")))
reason_text (reason.PastEnd at end) = codes "segment " ++ (decimal at ++ (codes " is past the End at " ++ decimal end))
reason_text (reason.StatedAgain before now) = codes "stated " ++ (decimal before ++ (codes " before, now " ++ decimal now))
reason_text (reason.NotAsStated stated got) = codes "stated " ++ (decimal stated ++ (codes ", got " ++ decimal got))
reason_text (reason.StatesTooMuch states maximum) = codes "states " ++ (decimal states ++ (codes ", maximum " ++ decimal maximum))
reason_text (reason.TooMuch got maximum) = codes "got " ++ (decimal got ++ (codes ", maximum " ++ decimal maximum))
reason_text reason.Compression = codes "the Begin asks for compression"
reason_text reason.CompressionAndCrc = codes "the Begin asks for compression and a CRC"
