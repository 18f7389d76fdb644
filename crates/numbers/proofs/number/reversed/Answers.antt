-- `reversed`: each arm adds the bytes at the positions that the definition gives them.
use Rattle.std.proofs.Common.{◌≡◌, ◌+◌, ◌*◌, ◌/◌, ◌%◌, ◌^◌, ℕ, arith}
use Rattle.numbers.specs.Numbers.{reversed, big}
use Rattle.numbers.proofs.number.reversed.Goals as goal

four : (a b c d : ℕ) → a * 16777216 + b * 65536 + c * 256 + d ≡ 256 ^ 3 * a + (256 ^ 2 * b + (256 ^ 1 * c + (256 ^ 0 * d + 0)))
four a b c d = omega arith

pub returns-in-Byte : goal.returns-in-Byte
unfolding reversed big
returns-in-Byte c = rw c.in-Byte.is (omega arith)

pub returns-in-Word : goal.returns-in-Word
unfolding reversed big
returns-in-Word c = rw c.in-Word.is (omega arith)

pub returns-in-Long : goal.returns-in-Long
unfolding reversed big
returns-in-Long c =
    let v = c.args.v in
    let low : v / 1 % 256 ≡ v % 256 = omega arith in
    let top : v / 16777216 % 256 ≡ v / 16777216 = omega arith in
    rw (c.in-Long.is, low, top) (four (v % 256) (v / 256 % 256) (v / 65536 % 256) (v / 16777216))
