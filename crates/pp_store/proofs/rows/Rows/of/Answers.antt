use Rattle.std.proofs.Common.{◌≤◌, Bool, List, Some, None, cond, sym, ◌∙◌, ap, subst}
use Rattle.std.specs.Prelude.{count_by, find}
use Rattle.std.specs.Option.{option_copied}
use Rattle.pp_store.specs.Kept.{is_under}
use Rattle.pp_store.proofs.TableLemmas.{key_by, key_none}
use Rattle.pp_store.proofs.rows.Rows.of.Goals as goal

pub returns-in-Some : goal.returns-in-Some
returns-in-Some c =
    c.row_if.ensures
    ∙ ap (λ (b : Bool). cond b (Some c.in-Some.row.now) None) c.is_of.ensures
    ∙ key_by c.args.self.now c.args.key.now c.in-Some.row.now (subst (λ (n : List _). count_by (is_under n) c.args.self.now ≤ 1) c.file_name.ensures c.under.ensures.alone)
    (ap (λ (n : List _). find (is_under n) c.args.self.now) (sym c.file_name.ensures) ∙ sym c.under.ensures.under ∙ ap option_copied c.in-Some.is)

pub returns-in-None : goal.returns-in-None
returns-in-None c =
    sym (key_none c.args.self.now c.args.key.now (ap (λ (n : List _). find (is_under n) c.args.self.now) (sym c.file_name.ensures) ∙ sym c.under.ensures.under ∙ ap option_copied c.in-None.is))
