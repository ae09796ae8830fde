-- Where a life listens its first turn waits, and what stands there.
use Rattle.std.proofs.Common.{◌≡◌, ◌≤◌, ◌<◌, refl, sym, subst, ap, ◌∙◌, ℕ, List, [], ◌∷◌, ◌+◌, true, length, Some, None, arith}
use Rattle.std.specs.List.{list_any}
use Rattle.std.specs.Prelude.{count_by, find, slice_get, vec_capacity}
use Rattle.pp_objects.specs.Instances.{is_row}
use Rattle.pp_cache.specs.Memory.{Memory}
use Rattle.pp_conf.specs.declared.conf.Conf.{Conf}
use Rattle.pp_desk.specs.declared.desk.Desk.{Desk}
use Rattle.pp_flow.specs.Changes.{Exchanges}
use Rattle.pp_joints_law.proofs.OpenedWait.{opened_carried, opened_wait, still, turns_begin}
use Rattle.pp_joints_law.proofs.Unnoted.{waits_none}
use Rattle.pp_joints_law.specs.Opened.{BeginsWith, HasBegun, at_first}
use Rattle.pp_joints_law.specs.Unnoted.{KnowsAlike}
use Rattle.pp_law.specs.Connections.{conn, is_conn}
use Rattle.pp_law.specs.Phases.{ending}
use Rattle.pp_law.specs.Opening.{is_opening, is_same_phase}
use Rattle.pp_law.specs.State.{State, Conn, Phase, Term, IsWoken, IsConfigured, IsRooted, IsListed, IsListening, IsStuck}
use Rattle.pp_laws_unused.proofs.Laws.{openings_are_unused}
use Rattle.pp_links.proofs.Keeping.{none_linked}
use Rattle.pp_links.specs.Links.{IsLinked, Link}
use Rattle.pp_obeys.specs.Obeys.{Life}
use Rattle.pp_opening_law.specs.Openings.{IsUnused}
use Rattle.pp_proxy.specs.Awaiting.{Awaits, Rests}
use Rattle.pp_proxy.specs.declared.proxy.Proxy.{Proxy}
use Rattle.pp_rounds_law.proofs.Coming.{comes_by, none_fail}
use Rattle.pp_seats.specs.declared.seat.Seat.{Seat}
use Rattle.pp_stays_law.specs.Names.{AllAskAmong, HasRoomFor}
use Rattle.pp_stays_law.specs.Turns.{StandsInTurn}
use Rattle.pp_store.specs.Kept.{KeptMap}
use Rattle.pp_waits_law.proofs.Good.{as_good}
use Rattle.pp_waits_law.proofs.Read.{origins_read}
use Rattle.pp_waits_law.specs.Good.{MayReadAndAsk}
use Rattle.pp_world.specs.Log.{Log}
use Rattle.pp_world.specs.declared.event.Wants.{Wants}
use Rattle.pp_world.specs.declared.happening.Happening.TheVariants.{Waits}
use Rattle.pp_turn_law.specs.Awaited.{StandsBeside}
use Rattle.pp_turn_law.specs.Opening.{FirstOnesAreAlone, FirstOnesStandInTurn, FirstTurnsWait, opened_at}
use Rattle.pp_turn_law.specs.Waited.{HasWaitedOn, rested}

pub listens_opens : (s : State) → s.phase ≡ IsListening → is_opening s ≡ true
listens_opens s at = ap (λ (q : Phase). list_any (λ p. is_same_phase p q) (IsWoken ∷ IsConfigured ∷ IsRooted ∷ IsListed ∷ IsListening ∷ IsStuck ∷ [])) at

module _ (life : Life) (budget : ℕ) (log : Log) (conf : Conf) (p : Proxy) (shelf : KeptMap) (top : ℕ) (s : State) (it : BeginsWith (life.terms budget) log conf p shelf top s) where
  abbrev terms : List Term
  terms = life.terms budget

  pub same_state : ending s ≡ s
  same_state = still terms log s it.obeys it.stands.opens.at

  pub nobody_lawful : IsUnused s
  nobody_lawful = openings_are_unused terms s log it.obeys (listens_opens s it.stands.opens.at)

  -- whoever was read before
  pub from_none : (w : Wants) (clients : ℕ) (e : Desk) → Awaits p.wants.read.items w clients p.desk e → Awaits [] w clients p.desk e
  from_none w clients e awaits = subst (λ (ns : List ℕ). Awaits ns w clients p.desk e) it.opened.read awaits

  -- ---- over the wait

  module _ (faults : ℕ) (number : ℕ → ℕ) (w : Wants) (clients : ℕ) (e f : Desk) (awaits : Awaits [] w clients p.desk e) (rests : Rests w clients e f) where
    pub begun : HasBegun terms log conf number w clients shelf (at_first p top) f s
    begun = turns_begin terms log conf p shelf top s number w clients e f it awaits rests

    can : MayReadAndAsk number [] p.desk (ending s)
    can = (opened_wait terms log conf p shelf top s number w clients e it awaits).read

    nobody : (i : ℕ) (seat : Seat) → slice_get f.state.seats.items i ≡ Some seat → ⊥
    nobody i seat at = let no : None ≡ Some seat = ap (λ (seats : List Seat). slice_get seats i) (sym begun.new.seats) ∙ at in cc no

    none_there : (n : ℕ) (k : Conn) → conn (rested w s) n ≡ Some k → ⊥
    none_there n k there = let no : None ≡ Some k = ap (λ (ks : List Conn). find (is_conn n) ks) (sym begun.unused.conns) ∙ there in cc no

    pub waited : length p.desk.state.name.items ≤ 64 → HasWaitedOn life budget log (opened_at p shelf top log faults) w clients f number s
    waited short = record {
      comes = comes_by terms (Waits w ∷ []) log s (rested w s) (none_fail s 0 refl) it.obeys begun.waited.leads;
      rests = begun.waited.rested;
      awaits = begun.awaits;
      carried = begun.carried;
      good = as_good number [] w clients p.desk e (ending s) can awaits;
      gets = origins_read number [] w clients p.desk e (ending s) can.can awaits;
      read = begun.read;
      given = λ i seat at. absurd (nobody i seat at);
      supplied = record {
        given = λ i seat at. absurd (nobody i seat at);
        texts = λ i seat at. absurd (nobody i seat at);
        counted = λ n k there. absurd (none_there n k there);
        name = subst (λ (name : List ℕ). length name ≤ 64) (sym (ap (λ (d : Desk). d.state.name.items) rests.rest ∙ ap (λ (d : Desk). d.state.name.items) awaits.rest)) short;
      };
    }

    pub alike : KnowsAlike f (rested w s)
    alike = waits_none [] w clients p.desk e f (ending s) awaits rests it.opened.new.forgotten

    pub beside : StandsBeside (opened_at p shelf top log faults) f
    beside = record {
      buffer = ap (λ (d : Desk). length d.buffer.items) rests.rest ∙ ap (λ (d : Desk). length d.buffer.items) awaits.rest ∙ it.opened.buffers.buffer;
      holds = subst (λ (n : ℕ). 32768 ≤ n) (sym (ap (λ (d : Desk). vec_capacity d.«data») rests.rest ∙ ap (λ (d : Desk). vec_capacity d.«data») awaits.rest)) it.opened.buffers.bytes;
      linked = subst (λ (links : List Link). IsLinked (Some log) top links) (sym it.opened.links) (none_linked (Some log) top);
    }

    pub notes : length f.state.cache.outdated + count_by is_row f.state.cache.instances < 2048
    notes = subst (λ (m : Memory). length m.outdated + count_by is_row m.instances < 2048) (sym begun.new.cache) (omega arith)

-- ---- all

pub first_wait : FirstTurnsWait
first_wait life budget log conf p shelf top faults s number w clients e f it short awaits rests = waited life budget log conf p shelf top s it faults number w clients e f (from_none life budget log conf p shelf top s it w clients e awaits) rests short

pub first_alone : FirstOnesAreAlone
first_alone life budget log all conf p shelf top faults now s w clients e f it awaits rests =
    let none : Awaits [] w clients p.desk e = from_none life budget log conf p shelf top s it w clients e awaits in
    record { beside = beside life budget log conf p shelf top s it faults (λ n. n) w clients e f none rests; notes = notes life budget log conf p shelf top s it faults (λ n. n) w clients e f none rests }

pub first_stand : FirstOnesStandInTurn
first_stand life budget log conf p shelf top s it =
    let carried = opened_carried (life.terms budget) log conf p shelf top s it in
    subst (λ (t : State). StandsInTurn shelf p.desk.state t) (sym (same_state life budget log conf p shelf top s it)) (record {
      given = λ i seat at. absurd (nobody_yet i seat at);
      texts = λ i seat at. absurd (nobody_yet i seat at);
      counted = λ n k there. absurd (none_there n k there);
      disk = record {
        shows = carried.disk.shows;
        noted = carried.disk.noted;
        names = carried.disk.names;
        room = record {
          names = [];
          seats = λ i seat at. absurd (nobody_yet i seat at);
          waiting = subst (λ (x : Exchanges). AllAskAmong [] x.waiting) (sym it.opened.new.flow) tt;
          placed = subst (λ (x : Exchanges). AllAskAmong [] x.placed) (sym it.opened.new.flow) tt;
          room = subst (λ (m : Memory). HasRoomFor [] m) (sym it.opened.new.cache) (omega arith);
        };
      };
    })
  where
    nobody_yet : (i : ℕ) (seat : Seat) → slice_get p.desk.state.seats.items i ≡ Some seat → ⊥
    nobody_yet i seat at = let no : None ≡ Some seat = ap (λ (seats : List Seat). slice_get seats i) (sym it.opened.new.seats) ∙ at in cc no

    none_there : (n : ℕ) (k : Conn) → conn s n ≡ Some k → ⊥
    none_there n k there = let no : None ≡ Some k = ap (λ (ks : List Conn). find (is_conn n) ks) (sym (nobody_lawful life budget log conf p shelf top s it).conns) ∙ there in cc no
