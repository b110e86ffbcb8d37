-- What a total stands for.
use Rattle.std.specs.Prelude.{◌≡◌, true, List}
use Rattle.desk_tests.specs.declared.total.Entry.{Entry}
use Rattle.desk_tests.specs.declared.total.Total.{Total}
use Rattle.desk_tests.specs.Totals.{total_of}

abbrev pub Stands : Total → List Entry → Type 0
Stands t log = (t.whole ≡ true) × (t.sum ≡ total_of log)
