-- The texts of numbers are ASCII.
use Rattle.std.proofs.Common.{arith, rules, ◌≡◌, ◌<◌, ◌^◌, ℕ, List, subst, sym}
use Rattle.std.specs.Fmt.{decimal}
use Rattle.std.specs.Str.{IsUtf8}
use Rattle.std.proofs.lemmas.Fmt.{IsAscii-decimal, parse-decimal}
use Rattle.std.proofs.lemmas.Str.{IsUtf8-from_ascii}
use Rattle.text_lines.proofs.numbers.number_of.Goals as goal

pub returns-in-Ok : goal.returns-in-Ok
returns-in-Ok c n small is = search (rules, parse-decimal 32 n c.in-Ok.text.now c.parse.result small)

utf8 : (bytes : List ℕ) (n : ℕ) → n < 2 ^ 32 → bytes ≡ decimal n → IsUtf8 bytes
utf8 bytes n small is = subst IsUtf8 (sym is) (IsUtf8-from_ascii (decimal n) (IsAscii-decimal n (omega (arith, small))))

pub returns-in-Err : goal.returns-in-Err
returns-in-Err c n small is = search (rules, utf8 c.args.digits.now n small is)
