-- `put_all`: the descriptors still to store, from the buffer as it stands, end as all of them do.
use Rattle.std.proofs.Common.{◌+◌, ◌-◌, ◌*◌, ◌≡◌, ◌≤◌, length}
use Rattle.std.proofs.lemmas.List.Edits.{sets}
use Rattle.board.specs.Layout.{bases}
use Rattle.resource_descriptor.specs.Descriptor.{size, descriptors_bytes}
use Rattle.resource.specs.Resource.{windows_from, described, descriptors, source_of}
use Rattle.resource.proofs.resource.put_all.Given as goal

abbrev pub invariant-loop-base : goal.invariant-loop-base
invariant-loop-base l =
    let s = source_of l.records l.registers l.windows l.handle in
    let w = windows_from s.exponent (bases - l.base) l.base in
    record {
      few : l.n ≤ l.base;
      sized : length l.out ≡ length l.fn.out;
      left : l.n + length w ≡ l.count;
      ends : sets l.out (size * l.n) (descriptors_bytes (described s w)) ≡ sets l.fn.out 0 (descriptors_bytes (descriptors s));
    }
