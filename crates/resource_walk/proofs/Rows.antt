-- The rows, worked out.
use mathlib.Core.Path.{refl}
use Rattle.numbers.specs.Numbers.{big}
use Rattle.numbers.specs.Tables.{table_from}
use Rattle.resource_walk.specs.Walk.{walk_for, stands}
use Rattle.resource_walk.specs.Rows.{ResourceWalkRows}

pub resource_walk_rows : ResourceWalkRows
unfolding big table_from walk_for stands
resource_walk_rows =
    record {
      nexts = refl;
      past = refl;
      left = refl;
      last = refl;
      fields = refl;
      stood = refl;
      stayed = refl;
    }
