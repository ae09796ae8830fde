use Rattle.std.proofs.Common.{◌∙◌, ◌++◌, List, ℕ, ap, append_assoc, sym}
use Rattle.std.proofs.lemmas.List.{append-nil}
use Rattle.pp_memworld.specs.declared.script.Cue.{Cue}
use Rattle.pp_demo.specs.Asking.{behind_client, cues_of_client, cues_of_clients}
use Rattle.pp_demo.proofs.Steps.{behind_clients-more, behind_clients-none, cues_of_clients-more, cues_of_clients-none}
use Rattle.pp_demo.proofs.asking.put_clients.Goals as goal

pub loop-client-init : goal.loop-client-init
loop-client-init c =
    let before = c.args.cues.now.items in
    record {
      state = sym (behind_clients-none c.args.generator.now.state);
      cues = sym (ap (λ (more : List Cue). before ++ more) (cues_of_clients-none c.args.last_offsets.now c.args.generator.now.state) ∙ append-nil before);
    }

pub loop-client-preserved : goal.loop-client-preserved
loop-client-preserved c =
    let n = c.loop-client._client in
    let last = c.args.last_offsets.now in
    let state = c.args.generator.now.state in
    let before = c.args.cues.now.items in
    record {
      state = c.put_client.ensures.state ∙ ap behind_client c.loop-client.invariant.state ∙ sym (behind_clients-more n state);
      cues =
          c.in_ok-put_client.ensures.cues
          ∙ ap (λ (front : List Cue). front ++ cues_of_client last c.loop-client.generator.state) c.loop-client.invariant.cues
          ∙ append_assoc before (cues_of_clients n last state) (cues_of_client last c.loop-client.generator.state)
          ∙ ap (λ (at : ℕ). before ++ (cues_of_clients n last state ++ cues_of_client last at)) c.loop-client.invariant.state
          ∙ ap (λ (more : List Cue). before ++ more) (sym (cues_of_clients-more n last state));
    }
