use Rattle.std.proofs.Common.{◌∙◌, ap, map, string_bytes, subst, sym}
use Rattle.pp_conf.specs.Shown.{shown_text}
use Rattle.pp_run.specs.declared.ending.Exit.{Exit}
use Rattle.pp_run.specs.Exits.{JudgesWords, asks_to_serve}
use Rattle.pp_run.specs.Lives.{has_served}
use Rattle.pp_run.proofs.Breaking.{refused_breaks, set_breaks, shown_breaks}
use Rattle.pp_run.proofs.Judging.{asks, demo_judges, fault_judges, judged, shows_demo}
use Rattle.pp_run.proofs.Living.{faults_serve_none, none_asked, none_served, second}
use Rattle.pp_run.proofs.Starting.{judges_shown, judges_with, starts_shown, starts_with}
use Rattle.pp_run.proofs.program.start.Goals as goal

pub returns-in-Ok-Serve-clause-words : goal.returns-in-Ok-Serve-clause-words
returns-in-Ok-Serve-clause-words g c = judges_with _ _ (map string_bytes c.args.words.now) (shown_text c.args.text) _ c.open.result _ _ (rw c.in-Ok-Serve.field-0-is at c.in-Ok-Serve.ensures) c.open.ensures.told

pub returns-in-Ok-Serve-clause-told : goal.returns-in-Ok-Serve-clause-told
returns-in-Ok-Serve-clause-told g c = starts_with _ _ (map string_bytes c.args.words.now) (shown_text c.args.text) _ c.open.result _ _ (rw c.in-Ok-Serve.field-0-is at c.in-Ok-Serve.ensures) c.open.ensures.told

pub returns-in-Ok-Demo-clause-words : goal.returns-in-Ok-Demo-clause-words
returns-in-Ok-Demo-clause-words g c =
    judges_shown _ _ (map string_bytes c.args.words.now) c.show.result
    (demo_judges (map string_bytes c.args.words.now) (shown_text c.args.text) _ _ c.in-Ok-Demo.field-0-is c.in-Ok-Demo.ensures) c.show.ensures

pub returns-in-Ok-Demo-clause-told : goal.returns-in-Ok-Demo-clause-told
returns-in-Ok-Demo-clause-told g c =
    starts_shown _ _ (map string_bytes c.args.words.now) (shown_text c.args.text) _ c.show.result _ _
    (shows_demo (map string_bytes c.args.words.now) (shown_text c.args.text) _ _ c.in-Ok-Demo.field-0-is c.in-Ok-Demo.ensures) c.show.ensures

pub returns-in-Err-clause-words : goal.returns-in-Err-clause-words
returns-in-Err-clause-words g c =
    subst (λ (e : Exit). JudgesWords (map string_bytes c.args.words.now) e) (sym c.refuse.ensures.exit)
    (fault_judges (map string_bytes c.args.words.now) (shown_text c.args.text) c.in-Err.fault c.in-Err.ensures)

pub returns-in-Ok-Serve-clause-read : goal.returns-in-Ok-Serve-clause-read
returns-in-Ok-Serve-clause-read g c = λ served. record {
  conf = _;
  says = rw c.in-Ok-Serve.field-0-is at c.in-Ok-Serve.ensures;
  lived = c.open.ensures.lived (second (asks_to_serve (map string_bytes c.args.words.now)) (has_served c.open.result) served);
}

pub returns-in-Ok-Demo-clause-read : goal.returns-in-Ok-Demo-clause-read
returns-in-Ok-Demo-clause-read g c =
    none_asked (map string_bytes c.args.words.now) c.show.result _
    (judged (map string_bytes c.args.words.now) (shown_text c.args.text) ∙ ap asks (shows_demo (map string_bytes c.args.words.now) (shown_text c.args.text) _ _ c.in-Ok-Demo.field-0-is c.in-Ok-Demo.ensures))

pub returns-in-Err-clause-read : goal.returns-in-Err-clause-read
returns-in-Err-clause-read g c = none_served (map string_bytes c.args.words.now) c.refuse.result _ (ap has_served c.refuse.ensures.exit ∙ faults_serve_none c.in-Err.fault)

pub returns-in-Ok-Serve-clause-breaks : goal.returns-in-Ok-Serve-clause-breaks
returns-in-Ok-Serve-clause-breaks g c = set_breaks (map string_bytes c.args.words.now) (shown_text c.args.text) _ c.open.result _ _ (rw c.in-Ok-Serve.field-0-is at c.in-Ok-Serve.ensures) c.open.ensures.breaks

pub returns-in-Ok-Demo-clause-breaks : goal.returns-in-Ok-Demo-clause-breaks
returns-in-Ok-Demo-clause-breaks g c = shown_breaks (map string_bytes c.args.words.now) (shown_text c.args.text) c.show.result _ _ c.show.ensures

pub returns-in-Err-clause-breaks : goal.returns-in-Err-clause-breaks
returns-in-Err-clause-breaks g c = refused_breaks (map string_bytes c.args.words.now) (shown_text c.args.text) c.in-Err.fault c.refuse.result _ _ c.refuse.ensures.exit c.refuse.ensures.told
