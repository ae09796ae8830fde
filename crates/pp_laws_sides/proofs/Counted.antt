-- The count of exchanges, happening by happening and some phases on.
use Rattle.std.proofs.Common.{List, ◌≡◌, refl, ℕ, ◌+◌, ◌*◌, ◌≤◌, true, [], ◌∷◌, ◌++◌, length, map, ap, ◌∙◌, sym, subst, le_refl, zero-le, arith}
use Rattle.pp_law.proofs.Prefixes.{front_from}
use Rattle.pp_law.specs.After.{after}
use Rattle.pp_law.specs.Phases.{behind, is_done, next}
use Rattle.pp_law.specs.State.{State, Term, start, Phase, Before, IsWoken, IsConfigured, IsRooted, IsListed, IsListening, IsStuck, Awaiting, Handling, Evicting, Keeping, Deciding, Following, Connecting, DecidingAgain}
use Rattle.pp_laws.proofs.Sound.{client_number, conn_number}
use Rattle.pp_laws.specs.Runs.{state_after}
use Rattle.pp_laws_bounds.proofs.Counts.{length-push}
use Rattle.pp_laws_pool.proofs.View.{holds, facts_of, view}
use Rattle.pp_laws_sides.proofs.Happenings.{after-named}
use Rattle.pp_laws_sides.proofs.Names.{Named, Names, names_of}
use Rattle.pp_laws_sides.proofs.Open.{LogSteps, along_log, at_its_end, few_names}
use Rattle.pp_laws_sides.proofs.Turns.{next-named}
use Rattle.pp_laws_sides.proofs.Few.{Few, facts_of as facts_few, raise}
use Rattle.pp_laws_sides.proofs.FewHappenings.{after-few, start-few}
use Rattle.pp_laws_sides.proofs.FewTurns.{next-few}
use Rattle.pp_laws_sides.specs.Counts.{CountsAreFarFromTheirEnds, ExchangesAreCounted, RequestsAreCounted, RowsAreCounted}
use Rattle.pp_laws_turn.proofs.Lifts.{obeying}
use Rattle.pp_obeys.specs.Obeys.{Obeys}
use Rattle.pp_obeys.proofs.Come.{next-phase, onward, place_of}
use Rattle.pp_world.specs.Log.{Log}

-- ---- behind each happening

abbrev IsCounted : Log → State → Type 0
IsCounted log s = s.next_exchange ≤ 4096 * length log

counted : LogSteps IsCounted
counted terms front h next was =
    let s : State = state_after terms front in
    let few = few_names terms s front (at_its_end terms front (front_from (start terms) front (h ∷ []) next.lawful)) in
    let then : (after s h).next_exchange ≤ s.next_exchange + 4096 = (facts_of (after-named s h next.permitted few (holds (record { clients_are = refl; conns_are = refl; few = le_refl s.next_exchange })))).few in
    let long : length (front ++ h ∷ []) ≡ length front + 1 = length-push front h in
    omega arith

-- ---- some phases on

-- so many, by the phase
record IsOn (o : Names) (m : ℕ) (s : State) : Type 0 where
  clients : map client_number s.clients ≡ o.clients
  conns : map conn_number s.conns ≡ o.conns
  few : s.next_exchange ≤ m + 256 * place_of s.phase

stays_on : (o : Names) (m : ℕ) → length o.clients ≤ 256 → (s : State) → is_done s ≡ true → IsOn o m s → IsOn o m (next s)
unfolding next
stays_on o m small s done on = by s.phase refl
  where
    then : Named o (m + 256 * place_of s.phase + length o.clients) (view (next s))
    then = facts_of (next-named s (holds (record { clients_are = on.clients; conns_are = on.conns; few = on.few })))

    onto : place_of (onward s.phase) ≡ place_of s.phase + 1 → IsOn o m (next s)
    onto one = record {
      clients = then.clients_are;
      conns = then.conns_are;
      few =
          let place : place_of (next s).phase ≡ place_of s.phase + 1 = ap place_of (next-phase s) ∙ one in
          let le : (next s).next_exchange ≤ m + 256 * place_of s.phase + length o.clients = then.few in
          omega arith;
    }

    moves : (p : Phase) → s.phase ≡ p → place_of (onward p) ≡ place_of p + 1 → IsOn o m (next s)
    moves p is one = onto (ap (λ (q : Phase). place_of (onward q)) is ∙ one ∙ sym (ap (λ (q : Phase). place_of q + 1) is))

    still : (p : Phase) → s.phase ≡ p → behind p s ≡ s → IsOn o m (next s)
    still p is same = subst (λ (t : State). IsOn o m t) (sym (ap (λ (q : Phase). behind q s) is ∙ same)) on

    by : (p : Phase) → s.phase ≡ p → IsOn o m (next s)
    by Before is = still Before is refl
    by IsWoken is = still IsWoken is refl
    by IsConfigured is = still IsConfigured is refl
    by IsRooted is = still IsRooted is refl
    by IsListed is = still IsListed is refl
    by IsListening is = still IsListening is refl
    by IsStuck is = still IsStuck is refl
    by Awaiting is = still Awaiting is refl
    by Handling is = moves Handling is refl
    by Evicting is = moves Evicting is refl
    by Keeping is = moves Keeping is refl
    by Deciding is = moves Deciding is refl
    by Following is = moves Following is refl
    by Connecting is = moves Connecting is refl
    by DecidingAgain is = still DecidingAgain is refl

no_further : (p : Phase) → place_of p ≤ 7
no_further Before = omega arith
no_further IsWoken = omega arith
no_further IsConfigured = omega arith
no_further IsRooted = omega arith
no_further IsListed = omega arith
no_further IsListening = omega arith
no_further IsStuck = omega arith
no_further Awaiting = omega arith
no_further Handling = omega arith
no_further Evicting = omega arith
no_further Keeping = omega arith
no_further Deciding = omega arith
no_further Following = omega arith
no_further Connecting = omega arith
no_further DecidingAgain = omega arith

pub exchanges_counted : ExchangesAreCounted
exchanges_counted terms s log obeys =
    let r : State = state_after terms log in
    let was : r.next_exchange ≤ 4096 * length log = along_log IsCounted (λ terms. zero-le) counted terms log obeys.lawful in
    let small : length (names_of r).clients ≤ 256 = few_names terms r log (at_its_end terms log obeys.lawful) in
    let on : IsOn (names_of r) (4096 * length log) s = obeying (IsOn (names_of r) (4096 * length log)) (stays_on (names_of r) (4096 * length log) small) terms s log obeys (record { clients = refl; conns = refl; few = further r.next_exchange (4096 * length log) (256 * place_of r.phase) was }) in
    let few : s.next_exchange ≤ 4096 * length log + 256 * place_of s.phase = on.few in
    let place : place_of s.phase ≤ 7 = no_further s.phase in
    omega arith
  where
    further : (a b c : ℕ) → a ≤ b → a ≤ b + c
    further a b c le = omega arith

-- ---- rows, and requests

abbrev AreCounted : Log → State → Type 0
AreCounted log s = Few (65536 * length log) (256 * length log) s

counted_few : LogSteps AreCounted
counted_few terms front h next was =
    let s : State = state_after terms front in
    let long : length (front ++ h ∷ []) ≡ length front + 1 = length-push front h in
    raise (65536 * length (front ++ h ∷ [])) (256 * length (front ++ h ∷ [])) (after s h) (omega arith) (omega arith) (after-few s h next.permitted was)

few_on : (terms : List Term) (s : State) (log : Log) → Obeys terms s log → Few (65536 * length log) (256 * length log) s
few_on terms s log obeys = obeying (Few (65536 * length log) (256 * length log)) (λ t done h. next-few t h) terms s log obeys (along_log AreCounted start-few counted_few terms log obeys.lawful)

pub rows_counted : RowsAreCounted
rows_counted terms s log obeys = (facts_few (few_on terms s log obeys)).rows

pub requests_counted : RequestsAreCounted
requests_counted terms s log obeys = (facts_few (few_on terms s log obeys)).asked

pub counts_far : CountsAreFarFromTheirEnds
counts_far terms s log obeys short = record {
  exchanges = let le : s.next_exchange ≤ 4096 * (length log + 1) = exchanges_counted terms s log obeys in omega (arith, short);
  requests = λ c i. let le : c.index ≤ 256 * length log = requests_counted terms s log obeys c i in omega (arith, short);
}
