use Rattle.std.proofs.Common.{◌≡◌, ◌∙◌, ◌++◌, List, map, ap, sym, subst, string_bytes, arith}
use Rattle.pp_conf.specs.Conf.{Assignment, settings_of}
use Rattle.pp_conf.specs.Words.{or_out_of_range}
use Rattle.pp_conf.specs.Shown.{Answers, shown_assignment, shown_text}
use Rattle.pp_conf.proofs.Reading.{Gives, in_turn, no_text_given, reads_all, text_given}
use Rattle.pp_conf.proofs.conf.Conf.read.Goals as goal
use Rattle.pp_conf.proofs.conf.Conf.read.Goals.{in-Some-text+else-text-gt-MAX_TEXT+in_ok-read_text, in_default-text}

pub returns : goal.returns
returns c =
    let found = c.match-text.assignments.items in
    let later = c.in_ok-line.line.settings.items in
    let given : Gives (shown_text c.args.text) (map shown_assignment found) = elim c.match-text.branch [
      | in-Some-text+else-text-gt-MAX_TEXT+in_ok-read_text w ↦
          rw w.assignments-is (text_given c.args.text w.in-Some-text.text _ w.in-Some-text.is (omega (arith, w.if-text-gt-MAX_TEXT.false)) (rw c.new-assignments.ensures.items at (w.in_ok-read_text.ensures)))
      | in_default-text w ↦ rw (w.assignments-is, c.new-assignments.ensures.items) (no_text_given c.args.text w.in_default-text.is)
    ] in
    let all : c.as_slice-2.result.now ≡ found ++ later
    = c.as_slice-2.ensures.value ∙ c.in_ok-extend_from_slice.ensures.items ∙ ap (λ x. found ++ x) c.as_slice.ensures.value in
    subst (λ r. Answers c.serve.result r)
    (sym (reads_all (map string_bytes c.args.words.now) (shown_text c.args.text) c.in_ok-line.line (map shown_assignment found) c.in_ok-line.ensures.line c.in_default.is given
    ∙ ap (λ (x : List Assignment). or_out_of_range (settings_of x)) (in_turn found later c.as_slice-2.result.now all)))
    c.serve.ensures
