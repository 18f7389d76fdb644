-- `copy_records`: the part of the image that holds the records, copied over zeros.
use Rattle.std.proofs.Common.{◌∙◌, refl, ap}
use Rattle.image_layout.proofs.Ranges.{part, range_part}
use Rattle.load.specs.Load.{padded}
use Rattle.load.proofs.Lists.{copied_padded}
use Rattle.load.proofs.install.copy_records.Goals as goal

pub returns : goal.returns
returns c =
    let r = c.records_range-range.result in
    rw c.copy_from_slice.ensures.after
    (copied_padded (part r c.args.image.now) _ refl
    ∙ ap padded (range_part r c.args.image.now (rw c.requires.0 at c.records_range-range.ensures)))
