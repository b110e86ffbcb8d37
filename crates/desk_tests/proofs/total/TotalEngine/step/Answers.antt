use Rattle.std.proofs.Common.{◌≡◌, ◌+◌, ◌%◌, ◌^◌, refl, ap}
use Rattle.desk_tests.specs.declared.total.Entry.TheVariants.{Made}
use Rattle.desk_tests.specs.Totals.{total_of}
use Rattle.desk_tests.proofs.total.TotalEngine.step.Goals as goal

pub returns : goal.returns
returns g c = record {
  call = λ seat. record {
    entry = Made (record { seat = seat; command = c.args.command; reply = (c.args.self.now.sum + c.args.command) % 2 ^ 64; before = c.args.self.now.sum });
    call = (refl, refl, refl);
    now = λ log is legal may.
        let after : (c.args.self.now.sum + c.args.command) % 2 ^ 64 ≡ (total_of log + c.args.command) % 2 ^ 64 = ap (λ n. (n + c.args.command) % 2 ^ 64) is.1 in
        ((is.0, after), ((is.1, after), legal));
    cost = λ log is legal may quiet. refl;
  };
}
