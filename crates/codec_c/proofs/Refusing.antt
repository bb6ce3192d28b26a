-- What catkhize_encode's first test says, for plain values: a segment that is too short is refused, and the buffers are left. Assumes nothing.
use borrow.Author.Tests.{lt-ltb}
use mathlib.Core.List.{List}
use mathlib.Core.Path.{◌≡◌}
use Prim.Native.Nat.{ℕ, ◌<◌}
use lib.ListN.{length}
use Rattle.tsar.specs.Rows.{start, stop}
use Rattle.codec_c.specs.Codes.{short}
use Rattle.codec_c.specs.Calls.{encode_call, encode_call_of, encode_tests}
use Rattle.codec_c.specs.Laws.{encode_refused}

pub segment_short : (segment octets : List ℕ) (version : ℕ) (output answer : List ℕ) → length segment < 15 → encode_call 65536 output answer ≡ encode_call_of segment octets version output answer
segment_short segment octets version output answer h =
    encode_refused segment octets version output answer short
    (stop short (start (encode_tests segment answer)) (lt-ltb _ _ h))
