use Rattle.std.proofs.Common.{◌∙◌, ◌≡◌, ◌∷◌, [], ℕ, Option, Some, ap, subst, refl}
use Rattle.std.specs.Option.{option_to_list}
use Rattle.pp_objects.specs.Instances.{in_slot}
use Rattle.pp_world.specs.Log.{AppendsAll, Log}
use Rattle.pp_steps.specs.Evicting.{evicted_notes, next_victim}
use Rattle.pp_steps.proofs.EvictingLemmas.{same_notes, still_there, there_by}
use Rattle.pp_steps.proofs.evict.evict_next.Goals as goal

pub note_evicted-requires-clause-there : goal.note_evicted-requires-clause-there
note_evicted-requires-clause-there g c =
    let old = c.args.cache.now.instances in
    let id = c.in-Some.victim.id in
    still_there id c.evict.new.self.instances old c.evict.ensures.faces (there_by id old (in_slot id.slot old) c.in-Some.ensures.id refl)

pub returns-in-Some-clause-told : goal.returns-in-Some-clause-told
returns-in-Some-clause-told g c =
    let old = c.args.cache.now in
    let place : ℕ × ℕ = (c.in-Some.victim.id.slot, c.in-Some.victim.index) in
    let victim : Some place ≡ next_victim c.args.pins.now.items c.args.floor old.chunks = c.in-Some.ensures.victim in
    subst (λ (hs : Log). AppendsAll (g.W.Logged.log c.args.world.now) (g.W.Logged.log c.note_evicted.new.world) (λ l. hs))
    (same_notes (place ∷ []) c.evict.new.self.instances old.instances c.evict.ensures.faces ∙ ap (λ (o : Option (ℕ × ℕ)). evicted_notes old.instances (option_to_list o)) victim)
    c.note_evicted.ensures.told
