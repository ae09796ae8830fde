use Rattle.std.proofs.Common.{◌∙◌, sym, ap, List, ℕ}
use Rattle.std.specs.Prelude.{bytes_eq}
use Rattle.pp_entry.specs.Entries.{shown_own}
use Rattle.pp_entry.specs.Texts.{padded}
use Rattle.pp_entry.proofs.SpellingLemmas.{spelled_if, unspelled_if}
use Rattle.pp_entry.proofs.read.is_spelled.Goals as goal

pub returns-then-is_err : goal.returns-then-is_err
returns-then-is_err c =
    unspelled_if c.args.block.now (shown_own c.args.own.now) c.args.fields.now c.put_head.new.out.items c.put_head.result (sym c.is_err.ensures.value ∙ c.if-is_err.true) c.put_head.ensures

pub returns : goal.returns
returns c =
    c.eq.ensures
    ∙ ap (λ (s : List ℕ). bytes_eq s c.as_slice-2.result.now) (c.as_slice.ensures ∙ c.padded-spelling.ensures ∙ ap padded c.deref.ensures.0)
    ∙ ap (bytes_eq (padded c.put_head.new.out.items)) c.as_slice-2.ensures
    ∙ spelled_if c.args.block.now (shown_own c.args.own.now) c.args.fields.now c.put_head.new.out.items c.put_head.result (sym c.is_err.ensures.value ∙ c.if-is_err.false) c.put_head.ensures
