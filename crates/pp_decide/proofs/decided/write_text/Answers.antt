use Rattle.std.proofs.Common.{◌≡◌, ◌↔◌, ◌≤◌, ◌∙◌, subst, ℕ, List, length, IsTrue, OnOk, is_ok}
use Rattle.pp_ask.specs.Texts.{ask_text}
use Rattle.pp_head.specs.Shown.{shown_request}
use Rattle.pp_target.specs.Key.{key_in}
use Rattle.pp_decide.proofs.DecideLemmas.{fits_if, text_is, written_if}
use Rattle.pp_decide.specs.Decide.{text_for}
use Rattle.pp_decide.proofs.decided.write_text.Goals as goal

pub returns-clause-fits : goal.returns-clause-fits
returns-clause-fits c =
    let is : ask_text c.as_ask.result (shown_request c.args.head.now) (key_in c.text.result.now c.place.result.now) c.as_slice.result.now ≡ text_for c.args.state.now (shown_request c.args.head.now) c.args.key.now c.args.kind.now =
    text_is c.args.state.now (shown_request c.args.head.now) c.args.key.now c.args.kind.now c.as_ask.result c.text.result.now c.as_slice.result.now c.place.result.now c.as_ask.ensures c.text.ensures c.place.ensures.place c.as_slice.ensures.value in
    c.is_ok.ensures.value ∙ fits_if (text_for c.args.state.now (shown_request c.args.head.now) c.args.key.now c.args.kind.now) (is_ok c.write_ask.result) (subst (λ (text : List ℕ). IsTrue (is_ok c.write_ask.result) ↔ (length text ≤ 16384)) is c.write_ask.ensures.fits)

pub returns-clause-written : goal.returns-clause-written
returns-clause-written c =
    written_if (text_for c.args.state.now (shown_request c.args.head.now) c.args.key.now c.args.kind.now) c.write_ask.new.out.items c.is_ok.result c.write_ask.result c.is_ok.ensures.value
    (subst (λ (text : List ℕ). OnOk c.write_ask.result (c.write_ask.new.out.items ≡ text))
    (text_is c.args.state.now (shown_request c.args.head.now) c.args.key.now c.args.kind.now c.as_ask.result c.text.result.now c.as_slice.result.now c.place.result.now c.as_ask.ensures c.text.ensures c.place.ensures.place c.as_slice.ensures.value)
    c.write_ask.ensures.text)
