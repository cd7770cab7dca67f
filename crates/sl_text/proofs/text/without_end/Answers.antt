use Rattle.std.proofs.Common.{sym, ap, ◌∙◌, arith}
use Rattle.std.proofs.lemmas.Str.Pattern.{strip_suffix_char}
use Rattle.sl_text.proofs.LineLemmas.{without_end_none, without_end_cases}
use Rattle.sl_text.proofs.text.without_end.Goals as goal

pub returns-in_default : goal.returns-in_default
returns-in_default c =
    let found = strip_suffix_char 10 c.args.line.now c.strip_suffix.result c.strip_suffix.ensures.cases (omega arith) in
    let none = rw c.in_default.is at found in
    sym (without_end_none c.args.line.now none)

pub returns : goal.returns
returns c =
    let found = strip_suffix_char 10 c.args.line.now c.strip_suffix.result c.strip_suffix.ensures.cases (omega arith) in
    let ended = rw c.in-Some.is at found in
    let returned = strip_suffix_char 13 c.in-Some.ended.now c.strip_suffix-2.result c.strip_suffix-2.ensures.cases (omega arith) in
    ap (λ r. r.now) c.unwrap_or.ensures ∙ without_end_cases c.args.line.now c.in-Some.ended c.strip_suffix-2.result ended returned
