use Rattle.std.proofs.Common.{◌∙◌, sym, ap, ◌%◌, ◌^◌, ◌-◌}
use Rattle.lane_ops.specs.Vector.{lane_value, doubled_high}
use Rattle.lane_ops.proofs.Halving.{doubled_low, quarter_small, two_quarters}
use Rattle.lane_ops.proofs.lanewise.lane_value.Goals as goal

pub doubled_high-requires-in-Sqrdmulh-clause-added :
    goal.doubled_high-requires-in-Sqrdmulh-clause-added
doubled_high-requires-in-Sqrdmulh-clause-added c = quarter_small c.args.cut.bits c.args.cut.narrow

pub returns-in-Sqdmulh : goal.returns-in-Sqdmulh
unfolding lane_value
returns-in-Sqdmulh c =
    c.doubled_high.ensures ∙ (sym (doubled_low c.args.cut.bits c.args.n c.args.m 0)
    ∙ ap (λ op. lane_value op c.args.cut.bits c.args.d c.args.n c.args.m % 2 ^ c.args.cut.bits) (sym c.in-Sqdmulh.is))

pub returns-in-Sqrdmulh : goal.returns-in-Sqrdmulh
unfolding lane_value
returns-in-Sqrdmulh c =
    c.doubled_high-in-Sqrdmulh.ensures ∙ (ap (λ round. doubled_high c.args.cut.bits c.args.n c.args.m round) (two_quarters c.args.cut.bits c.args.cut.some c.args.cut.narrow)
    ∙ (sym (doubled_low c.args.cut.bits c.args.n c.args.m (2 ^ (c.args.cut.bits - 1)))
    ∙ ap (λ op. lane_value op c.args.cut.bits c.args.d c.args.n c.args.m % 2 ^ c.args.cut.bits) (sym c.in-Sqrdmulh.is)))
