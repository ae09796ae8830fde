-- Where each exchange that has more of a body to ask is somebody's as a connection to an origin is read, its response goes on behind that.
use Rattle.std.proofs.Common.{◌≡◌, refl, ℕ, ◌==◌, true, false, List, length, is_some, Option, Some, None, sym, ap, ◌∙◌}
use Rattle.pp_world.specs.Log.{Log}
use Rattle.pp_law.specs.Connections.{is_client}
use Rattle.pp_law.specs.Lists.{Bytes}
use Rattle.pp_law.specs.Responses.{got}
use Rattle.pp_law.specs.Stages.{is_begun, is_headed}
use Rattle.pp_law.specs.State.{State, Client, Exchange, Stage, Undecided, Waiting, Passing, Answering, Term}
use Rattle.pp_laws.specs.Runs.{IsIn}
use Rattle.pp_laws.proofs.Lists.{in_find}
use Rattle.pp_laws.proofs.Tests.{same_number}
use Rattle.pp_laws_coming.specs.Coming.{Waits, is_waiting}
use Rattle.pp_laws_coming.proofs.Laws.{asks_told}
use Rattle.pp_laws_turn.specs.SoundTurn.{HasAsker}
use Rattle.pp_laws_turn.proofs.Laws.{sound_turns}
use Rattle.pp_laws_turn.proofs.View.{Holds, facts_of, holds}
use Rattle.pp_obeys.specs.Obeys.{Obeys}
use Rattle.pp_laws_left.proofs.BodiedFits.{Fit}
use Rattle.pp_laws_left.proofs.BodiedGot.{got-strict}
use Rattle.pp_laws_left.proofs.BodiedHeads.{Firm, StrictOf}
use Rattle.pp_laws_left.proofs.BodiedLate.{Whose}
use Rattle.pp_laws_left.proofs.BodiesPassed.{bodies_are_passed, fills_none}
use Rattle.pp_laws_left.proofs.Keep.{AtEvent, begun_in}
use Rattle.pp_laws_left.proofs.Owned.{Facts, none_but}
use Rattle.pp_laws_left.proofs.OwnedEnds.{owned_on}
use Rattle.pp_laws_left.proofs.OwnedReads.{got_whole}

waiting_begun : (g : Stage) → is_waiting g ≡ true → begun_in g ≡ false
waiting_begun Undecided is = absurd (cc is)
waiting_begun Waiting is = refl
waiting_begun Passing is = refl
waiting_begun (Answering r) is = absurd (cc is)

-- of which exchange and client it was so
abbrev Had : State → ℕ → ℕ → Type 0
Had s n m = (d : Exchange) × IsIn d s.exchanges × (d.number ≡ n) × (d.asker ≡ Some m) × ((d.body_left == 0) ≡ false)

-- and whose response had not begun
abbrev Awaits : State → ℕ → Type 0
Awaits s m = (d : Exchange) × IsIn d s.exchanges × (d.asker ≡ Some m) × ((d.body_left == 0) ≡ false) × (is_headed d ≡ false)

pub got-fit : (terms : List Term) (s : State) (log : Log) → Obeys terms s log → (n : ℕ) (bytes : Bytes) → AtEvent s.phase s.owed → Holds Fit s → Holds Whose s → Holds Fit (got (length bytes) n bytes s)
got-fit terms s log obeys n bytes at fit whose = holds (λ e i left. let firm = (facts_of strict).firm e i in let t = firm.its left in firm.awaited t.0 t.1)
  where
    f : Facts none_but (AtEvent s.phase s.owed) s.clients s.exchanges s.conns s.next_exchange
    f = facts_of (owned_on terms s log obeys)

    one : (e : Exchange) (m : ℕ) → IsIn e s.exchanges → (t : Had s e.number m) → t.0 ≡ e
    one e m i t = f.apart t.0 e t.1 i t.2

    asks : (e : Exchange) → IsIn e s.exchanges → (e.body_left == 0) ≡ false → (o : Option ℕ) → e.asker ≡ o → (m : ℕ) × Had s e.number m
    asks e i left None is = let both : false ≡ true = sym (ap (λ (o : Option ℕ). is_some o) is) ∙ facts_of whose e i left in absurd (cc both)
    asks e i left (Some m) is = (m, (e, i, refl, is, left))

    firm_of : (e : Exchange) → IsIn e s.exchanges → Firm (Had s) (Awaits s) e
    firm_of e i = record {
      its = λ left. asks e i left e.asker refl;
      through = λ m t. bodies_are_passed terms s log obeys e i (ap (λ (x : Exchange). x.body_left == 0) (sym (one e m i t)) ∙ t.4);
      asker = λ m t. ap (λ (x : Exchange). x.asker) (sym (one e m i t)) ∙ t.3;
      awaited = λ m t. facts_of fit e i (ap (λ (x : Exchange). x.body_left == 0) (sym (one e m i t)) ∙ t.4);
      fresh = λ m t off. (t.0, t.1, t.3, t.4, ap (λ (x : Exchange). is_headed x) (one e m i t) ∙ off);
    }

    client_of : (m : ℕ) → Awaits s m → (c : Client) × IsIn c s.clients × (c.number ≡ m) × (is_begun c ≡ false)
    client_of m u =
        let a : HasAsker s u.0 m = (sound_turns terms s log obeys).askers u.0 m u.1 u.2 in
        let w = in_find (is_client m) a.asker s.clients a.there in
        let waits : Waits a.asker = ((asks_told terms s log obeys).told u.0 m a.asker u.1 u.2 a.there).waits (fills_none u.0.aim (bodies_are_passed terms s log obeys u.0 u.1 u.3)) u.4 in
        (a.asker, w.0, same_number a.asker.number m w.1, waiting_begun a.asker.stage waits.stage)

    strict : Holds (StrictOf (Had s) (Awaits s)) (got (length bytes) n bytes s)
    strict = got-strict (Had s) (Awaits s) (length bytes) n bytes s at (got_whole n s (owned_on terms s log obeys)) (holds (record { firm = firm_of; clients = client_of }))
