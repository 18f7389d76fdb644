-- `put_big`: the bytes still to store, from the slice as it stands, end as all of them do.
use Rattle.std.proofs.Common.{◌≡◌, ◌+◌, ◌/◌, ◌^◌, ◌≤◌, length, drop}
use Rattle.std.proofs.lemmas.List.Edits.{sets}
use Rattle.numbers.specs.Numbers.{big_bytes, reversed}
use Rattle.numbers.proofs.number.put_big.Given as goal

abbrev pub invariant-loop-i : goal.invariant-loop-i
invariant-loop-i l = record {
  within : l.i ≤ l.w;
  digits : l.rest ≡ reversed l.w l.value / 256 ^ l.i;
  sized : length l.s ≡ length l.fn.s;
  ends : sets l.s (l.at + l.i) (drop l.i (big_bytes l.w l.value)) ≡ sets l.fn.s l.at (big_bytes l.w l.value);
}
