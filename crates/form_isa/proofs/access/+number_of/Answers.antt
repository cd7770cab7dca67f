use Rattle.form_isa.proofs.Addresses.{room_above, byte_fits, not_none}
use Rattle.form_isa.proofs.access.+number_of.Goals as goal

pub with_byte-requires : goal.with_byte-requires
with_byte-requires t c = room_above c.args.count c.number_of.result c.requires c.number_of.ensures.small

pub returns-clause-small : goal.returns-clause-small
returns-clause-small t c =
    byte_fits c.args.count c.number_of.result c.with_byte.result (not_none c.args.count c.if-count-eq0.false) c.number_of.ensures.small
    c.with_byte.ensures.small
