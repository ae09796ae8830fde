-- Whether the row of a reply stands, and whether a request may wait on.
use Rattle.std.proofs.Common.{◌≡◌, refl, sym, ap, ◌∙◌, ℕ, Bool, true, false, not, [], Option, Some, None}
use Rattle.pp_cache.specs.Memory.{Memory, stands}
use Rattle.pp_cache_law.proofs.Alike.{instances_of, retired_of}
use Rattle.pp_cache_law.specs.Reads.{IsFound}
use Rattle.pp_cache_law.specs.Tables.{ShowsTable}
use Rattle.pp_law.specs.Lists.{is_some_with}
use Rattle.pp_law.specs.Stages.{reply_of}
use Rattle.pp_law.specs.State.{State, Instance, Reply}
use Rattle.pp_law.specs.Table.{instance, source_of}
use Rattle.pp_objects.specs.Instances.{is_there}
use Rattle.pp_objects.specs.declared.id.ObjectId.{ObjectId}
use Rattle.pp_seats.specs.declared.seat.Answer.{Answer}
use Rattle.pp_client.specs.Replies.{Reply as Said}
use Rattle.pp_seats.specs.Follows.{answer_in}
use Rattle.pp_seats_law.proofs.Stages.{replies}
use Rattle.pp_seats_law.specs.Replies.{source_number}
use Rattle.pp_seats_law.specs.Words.{ShowsReply}
use Rattle.pp_due.specs.Due.{is_source_standing}
use Rattle.pp_turns_law.specs.Dues.{StandingIsTheLaws}

not_twice : (a b : Bool) → not a ≡ b → a ≡ not b
not_twice true false e = refl
not_twice false true e = refl
not_twice true true e = absurd (cc e)
not_twice false false e = absurd (cc e)

-- where the program has it, so has the law
there_by : (number : ℕ → ℕ) (m : Memory) (s : State) (id : ObjectId) → ShowsTable number m s → is_there id m.instances ≡ true
    → stands id m.instances ≡ is_some_with (λ x. not x.is_retired) (instance s (number id.life))
there_by number m s id shows there =
    let one : IsFound number m s id = instances_of number m s shows id there in
    not_twice (stands id m.instances) one.known.is_retired (retired_of number m s shows id one.known there one.there)
    ∙ sym (ap (λ o. is_some_with (λ x. not x.is_retired) o) one.there)

abbrev source_by : State → Option ℕ → Option Instance
source_by s r = elim r [ None ↦ None | Some id ↦ instance s id ]

-- by the instance that is followed
stands_by : (number : ℕ → ℕ) (m : Memory) (s : State) (a : Option ObjectId) (r : Option ℕ) → ShowsTable number m s → source_number number a ≡ r → ((id : ObjectId) → a ≡ Some id → is_there id m.instances ≡ true)
    → (elim a as (λ c. Bool) [ None ↦ false | Some id ↦ stands id m.instances ]) ≡ is_some_with (λ x. not x.is_retired) (source_by s r)
stands_by number m s None r shows same there = ap (λ o. is_some_with (λ x. not x.is_retired) (source_by s o)) same
stands_by number m s (Some id) r shows same there = there_by number m s id shows (there id refl) ∙ ap (λ o. is_some_with (λ x. not x.is_retired) (source_by s o)) same

standing_by : (number : ℕ → ℕ) (m : Memory) (s : State) (said : Said) (a : Option Answer) (r : Option Reply) → ShowsTable number m s → ShowsReply number said a r
    → ((b : Answer) (id : ObjectId) → a ≡ Some b → b.source ≡ Some id → is_there id m.instances ≡ true)
    → is_source_standing m.instances a ≡ is_some_with (λ r. is_some_with (λ x. not x.is_retired) (source_of s r)) r
standing_by number m s said None None shows same there = refl
standing_by number m s said (Some a) (Some r) shows same there = stands_by number m s a.source r.source shows same.source (λ id is. there a id refl is)
standing_by number m s said None (Some r) shows same there = absurd same
standing_by number m s said (Some a) None shows same there = absurd same

pub standing : StandingIsTheLaws
standing number l peers p s name seat c shows seen going there =
    standing_by number p.cache s seat.client.reply (answer_in seat.stage) (reply_of c) shows.steps.shows.table.table (replies number name [] seat c (seen.going going)) there
