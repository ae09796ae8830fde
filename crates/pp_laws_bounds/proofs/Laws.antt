-- The laws: there are few connections, few to one host and port, short lines, and few clients.
use Rattle.std.proofs.Common.{refl, zero-le, List, [], ◌++◌}
use Rattle.pp_world.specs.Log.{Log}
use Rattle.pp_law.proofs.Prefixes.{front_from}
use Rattle.pp_law.specs.Lawful.{Lawful}
use Rattle.pp_law.specs.State.{Term, start}
use Rattle.pp_laws.proofs.Laws.{start-sound}
use Rattle.pp_laws.specs.Runs.{state_after}
use Rattle.pp_laws_bounds.specs.Bounds.{Always, HasFewClients, HasFewConnections, HasShortLines, KeepsToHosts}
use Rattle.pp_laws_bounds.proofs.Happenings.{after_all-kept, from_now}
use Rattle.pp_laws_bounds.proofs.Kept.{Kept, facts_of, kept}

pub start-kept : (terms : List Term) → Kept [] (start terms)
start-kept terms = kept (record {
  few_clients = zero-le;
  lines = record { rise = tt; few = zero-le; spared = λ host port. zero-le; short = λ k i. absurd i; closed = λ k i. absurd i };
  given = λ k i. absurd i;
  asked_well = λ e i. absurd i;
  lined = λ going e n i. absurd i;
  none_yet = λ at. (refl, refl);
})

pub whole_kept : (terms : List Term) (front rest : Log) → Lawful terms (front ++ rest) → Kept [] (state_after terms front)
whole_kept terms front rest lawful = after_all-kept (start terms) front (front_from (start terms) front rest lawful) (start-sound from_now terms refl) (start-kept terms)

pub few_connections : Always HasFewConnections
few_connections terms front rest lawful = (facts_of (whole_kept terms front rest lawful)).lines.few

pub spared_hosts : Always KeepsToHosts
spared_hosts terms front rest lawful = (facts_of (whole_kept terms front rest lawful)).lines.spared

pub short_lines : Always HasShortLines
short_lines terms front rest lawful = (facts_of (whole_kept terms front rest lawful)).lines.short

pub few_clients : Always HasFewClients
few_clients terms front rest lawful = (facts_of (whole_kept terms front rest lawful)).few_clients
