-- ASCII characters are a text.
use Rattle.std.proofs.Common.{ℕ, List}
use Rattle.std.proofs.lemmas.Str.{IsUtf8-from_ascii}
use Rattle.std.specs.Str.{IsAscii, IsUtf8}

pub utf8_from_ascii : (bs : List ℕ) → IsAscii bs → IsUtf8 bs
utf8_from_ascii bs h = IsUtf8-from_ascii bs h
