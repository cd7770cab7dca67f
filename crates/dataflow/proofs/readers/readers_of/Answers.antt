use Rattle.std.proofs.Common.{◌<◌, filter, sym, ap, ◌∙◌, arith}
use Rattle.std.specs.List.{list_any}
use Rattle.sl_model.specs.Graph.{is_output_of, sources_at}
use Rattle.sl_model.specs.declared.limits.TheConstants.{SET_ITEMS}
use Rattle.dataflow.specs.ItemSets.{with_item}
use Rattle.dataflow.proofs.Sets.{with_item-next}
use Rattle.dataflow.proofs.readers.readers_of.Goals as goal
use Rattle.sl_laws.proofs.Numbers.{numbers-none, filter_numbers-same}

pub loop-reader-init : goal.loop-reader-init
loop-reader-init c =
    c.new-set.ensures ∙ ap (filter (λ reader. list_any (is_output_of c.args.item) (sources_at c.args.graph.now reader))) (sym numbers-none)

pub loop-reader-preserved-then-not-is_read : goal.loop-reader-preserved-then-not-is_read
loop-reader-preserved-then-not-is_read c =
    c.loop-reader.invariant
    ∙ sym (filter_numbers-same (λ reader. list_any (is_output_of c.args.item) (sources_at c.args.graph.now reader)) c.loop-reader.reader
    (sym (c.is_read.ensures ∙ ap (list_any (is_output_of c.args.item)) c.sources_of.ensures.sources) ∙ c.if-not-is_read.true))

pub loop-reader-preserved : goal.loop-reader-preserved
loop-reader-preserved c =
    let within : c.loop-reader.reader < SET_ITEMS = omega (arith, c.is_sound.ensures.flow.few) in
    c.insert.ensures ∙ ap (with_item c.loop-reader.reader) c.loop-reader.invariant
    ∙ with_item-next (λ reader. list_any (is_output_of c.args.item) (sources_at c.args.graph.now reader)) c.loop-reader.reader within
    (sym (c.is_read.ensures ∙ ap (list_any (is_output_of c.args.item)) c.sources_of.ensures.sources) ∙ c.if-not-is_read.false)
