use Rattle.std.proofs.Common.{refl}
use Rattle.front_laws.proofs.parted.an_empty_front_stands_for_nothing.Goals as goal

pub returns : goal.returns
returns c = record {
  jobs = record { live = refl; taken = refl; broken = refl };
  count = tt;
  open_parts = λ whole. record {
    cat = record { databases = refl; tables = refl; last_table = refl };
    txns = record { txns = refl; range = refl; next = refl; places = refl };
    tablets = record { grid = tt; lists = λ table index w. refl; versions = λ table part. refl; waiting = λ txn index. refl };
    alters = record { jobs = refl; names = tt; last_job = refl; tasks = refl };
    shadows = record { shadows = λ table index w. tt };
  };
}
