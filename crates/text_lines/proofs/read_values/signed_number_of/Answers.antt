use Rattle.std.proofs.Common.{arith, rules, ◌≡◌, ℤ, List, ℕ, subst, sym}
use Rattle.std.specs.Prelude.{FitsSigned}
use Rattle.std.specs.Int.{w16}
use Rattle.std.specs.Fmt.{signed_decimal}
use Rattle.std.specs.Str.{IsUtf8}
use Rattle.std.proofs.lemmas.Fmt.{IsAscii-signed, parse-signed_decimal}
use Rattle.std.proofs.lemmas.Str.{IsUtf8-from_ascii}
use Rattle.text_lines.proofs.read_values.signed_number_of.Goals as goal

pub returns-in-Ok : goal.returns-in-Ok
returns-in-Ok c n fits is = let f = fits.sfits in search (rules, parse-signed_decimal w16 n c.in-Ok.text.now c.parse.result fits (omega (arith, f)))

utf8 : (bytes : List ℕ) (n : ℤ) → FitsSigned w16 n → bytes ≡ signed_decimal n → IsUtf8 bytes
utf8 bytes n fits is = let f = fits.sfits in subst IsUtf8 (sym is) (IsUtf8-from_ascii (signed_decimal n) (IsAscii-signed n (omega (arith, f))))

pub returns-in-Err : goal.returns-in-Err
returns-in-Err c n fits is = search (rules, utf8 c.args.word.now n fits is)
