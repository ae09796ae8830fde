-- What a turn knows beside clients, exchanges and rows stays where these alone change.
use Rattle.std.proofs.Common.{◌≡◌, refl, sym, subst, ap, ◌∙◌, ℕ, Bool, true, false, nat_le, nat_lt, List, Option, Some, None}
use Rattle.std.specs.Prelude.{count_by}
use Rattle.pp_answers.specs.FinalHeads.{roomed, roomed_by, roomed_for, version_in}
use Rattle.pp_answers.specs.Rows.{with_room_for}
use Rattle.pp_due.specs.Entering.{HasRowFor, MayCome, with_room_if_over}
use Rattle.pp_flow.specs.Entries.{Span}
use Rattle.pp_flow.specs.declared.entry.Aim.{Aim}
use Rattle.pp_flow.specs.declared.entry.Aim.TheVariants.{Own, Hole, Pass as Through}
use Rattle.pp_flow.specs.declared.entry.Entry.{Entry}
use Rattle.pp_flow.specs.declared.entry.Exchange.{Exchange}
use Rattle.pp_framing.specs.declared.body.BodyRule.{BodyRule}
use Rattle.pp_head.specs.Response.{Response}
use Rattle.pp_objects.specs.Instances.{Instance, is_row}
use Rattle.pp_objects.specs.declared.id.ObjectId.{ObjectId}
use Rattle.pp_state.specs.Astray.{gone_astray, gone_astray_where}
use Rattle.pp_state.specs.Bodies.{IsButForCells, delivered, delivered_for, joined, joined_by, joined_within, left_for}
use Rattle.pp_state.specs.Ends.{KeepsRest, exchange_at, parts, parts as parts_of}
use Rattle.pp_state.specs.Known.{row_for}
use Rattle.pp_state.specs.Pins.{forgotten_row, idle_row, with_room}
use Rattle.pp_state.specs.declared.state.State.{State}
use Rattle.pp_store.specs.Kept.{KeptMap}
use Rattle.pp_valid.specs.declared.version.Version.{Version}
use mathlib.Core.Logic.{inl, inr}
use Rattle.pp_reads_law.proofs.Stayed.{Stay, seated}
use Rattle.pp_reads_law.proofs.StillClients.{are_as, none}
use Rattle.pp_reads_law.specs.Stays.{AreStill, KnowsAsMuch}

pub knows_same : (s : State) → KnowsAsMuch s s
knows_same s = record { name = refl; shares = refl; clock = refl; ticked = refl; was_ticked = refl; stopped = refl; awake = refl }

pub knows_then : (a b c : State) → KnowsAsMuch a b → KnowsAsMuch b c → KnowsAsMuch a c
knows_then a b c one two = record {
  name = two.name ∙ one.name;
  shares = two.shares ∙ one.shares;
  clock = two.clock ∙ one.clock;
  ticked = two.ticked ∙ one.ticked;
  was_ticked = two.was_ticked ∙ one.was_ticked;
  stopped = two.stopped ∙ one.stopped;
  awake = two.awake ∙ one.awake;
}

pub knows_rest : (old new : State) → KeepsRest old new → KnowsAsMuch old new
knows_rest old new rest = record {
  name = ap (λ (s : State). s.name.items) rest;
  shares = ap (λ (s : State). s.shares_fetches) rest;
  clock = ap (λ (s : State). s.now) rest;
  ticked = ap (λ (s : State). s.is_ticked) rest;
  was_ticked = ap (λ (s : State). s.has_ticked) rest;
  stopped = ap (λ (s : State). s.is_stopped) rest;
  awake = ap (λ (s : State). s.awake.items) rest;
}

-- ---- a row comes in, and another leaves for it

-- with the clients as they are; where memory is refused for a row, this life goes astray
pub record IsBesideRows (old new : State) : Type 0 where
  pub seats : new.seats.items ≡ old.seats.items
  pub knows : KnowsAsMuch old new
  pub astray : new.is_astray ≡ false → old.is_astray ≡ false
  pub refused : new.refused ≡ old.refused

abbrev beside_same : (s : State) → IsBesideRows s s
beside_same s = record { seats = refl; knows = knows_same s; astray = λ on. on; refused = refl }

beside_then : (a b c : State) → IsBesideRows a b → IsBesideRows b c → IsBesideRows a c
beside_then a b c one two = record { seats = two.seats ∙ one.seats; knows = knows_then a b c one.knows two.knows; astray = λ on. one.astray (two.astray on); refused = two.refused ∙ one.refused }

beside_as : (a b c : State) → c ≡ b → IsBesideRows a b → IsBesideRows a c
beside_as a b c is all = subst (λ (s : State). IsBesideRows a s) (sym is) all

forgets : (o : Option Instance) (s : State) → IsBesideRows s (forgotten_row o s)
forgets None s = beside_same s
forgets (Some i) s = record { seats = refl; knows = record { name = refl; shares = refl; clock = refl; ticked = refl; was_ticked = refl; stopped = refl; awake = refl }; astray = λ on. on; refused = refl }

rooms : (s : State) → IsBesideRows s (with_room s)
rooms s = by (nat_le 1024 (count_by is_row s.cache.instances))
  where
    by : (b : Bool) → IsBesideRows s (elim b as (λ t. State) [ true ↦ forgotten_row (idle_row s) s | false ↦ s ])
    by true = forgets (idle_row s) s
    by false = beside_same s

pub rooms_over : (s : State) → IsBesideRows s (with_room_if_over s)
rooms_over s = by (nat_lt 1024 (count_by is_row s.cache.instances))
  where
    by : (b : Bool) → IsBesideRows s (elim b as (λ t. State) [ true ↦ with_room s | false ↦ s ])
    by true = rooms s
    by false = beside_same s

astray : (s : State) → IsBesideRows s (gone_astray s)
astray s = record { seats = refl; knows = record { name = refl; shares = refl; clock = refl; ticked = refl; was_ticked = refl; stopped = refl; awake = refl }; astray = λ on. absurd (cc on); refused = refl }

pub astray_where : (b : Bool) (s : State) → IsBesideRows s (gone_astray_where b s)
astray_where true s = astray s
astray_where false s = beside_same s

comes : (shelf : KeptMap) (key : List ℕ) (old new : State) → MayCome shelf key old new → IsBesideRows old new
comes shelf key old new (inl it) = record {
  seats = ap (λ (s : State). s.seats.items) it.rest;
  knows = record {
    name = ap (λ (s : State). s.name.items) it.rest;
    shares = ap (λ (s : State). s.shares_fetches) it.rest;
    clock = ap (λ (s : State). s.now) it.rest;
    ticked = ap (λ (s : State). s.is_ticked) it.rest;
    was_ticked = ap (λ (s : State). s.has_ticked) it.rest;
    stopped = ap (λ (s : State). s.is_stopped) it.rest;
    awake = ap (λ (s : State). s.awake.items) it.rest;
  };
  astray = λ on. sym (ap (λ (s : State). s.is_astray) it.rest) ∙ on;
  refused = ap (λ (s : State). s.refused) it.rest;
}
comes shelf key old new (inr it) = beside_as old (gone_astray old) new it (astray old)

pub row_beside : (shelf : KeptMap) (o : Option (List ℕ)) (old new : State) → HasRowFor shelf o old new → IsBesideRows old new
row_beside shelf None old new it = beside_as old old new it (beside_same old)
row_beside shelf (Some key) old new it = beside_as old (with_room_if_over it.entered) new it.room (beside_then old it.entered (with_room_if_over it.entered) (comes shelf key old it.entered it.comes) (rooms_over it.entered))

roomed_row : (o : Option (ObjectId × Version)) (s : State) → IsBesideRows s (with_room_for o s)
roomed_row None s = rooms s
roomed_row (Some row) s = beside_same s

pub roomed_beside : (o : Option Version) (n : ℕ) (s : State) → IsBesideRows s (roomed o n s)
roomed_beside None n s = beside_same s
roomed_beside (Some v) n s = roomed_row (row_for n (parts s)) s

pub head_beside : (head : Response) (o : Option (Entry × BodyRule)) (s : State) → IsBesideRows s (roomed_by head o s)
head_beside head None s = beside_same s
head_beside head (Some a) s = by a.0.exchange.aim
  where
    by : (aim : Aim) → IsBesideRows s (roomed_for aim a.0.errand head a.0.exchange.number s)
    by Own = roomed_beside (version_in a.0.errand head) a.0.exchange.number s
    by (Hole v from to) = roomed_beside (version_in a.0.errand head) a.0.exchange.number s
    by Through = beside_same s

-- clients, and what the turn knows
pub record TurnsStay (old new : State) : Type 0 where
  pub parts : Stay (parts_of old) (parts_of new)
  pub knows : KnowsAsMuch old new

pub beside_stays : (s t : State) → IsBesideRows s t → Stay (parts_of s) (parts_of t)
beside_stays s t it = record { clients = are_as s.seats.items s.seats.items t.seats.items (sym it.seats) (none s.seats.items); astray = it.astray; refused = λ on is. it.refused ∙ is }

-- ---- data come

-- in all that is no part of clients, exchanges and rows
record Joins (old new : State) : Type 0 where
  knows : KnowsAsMuch old new
  astray : new.is_astray ≡ old.is_astray
  refused : new.refused ≡ old.refused

joins_none : (s : State) → Joins s s
joins_none s = record { knows = knows_same s; astray = refl; refused = refl }

joins : (number : ℕ) (o : Option Span) (bytes : List ℕ) (s : State) → Joins s (joined_by number o bytes s)
joins number None bytes s = joins_none s
joins number (Some span) bytes s = by (left_for number s.flow)
  where
    by : (o : Option ℕ) → Joins s (joined_within number o span bytes s)
    by None = joins_none s
    by (Some left) = record { knows = record { name = refl; shares = refl; clock = refl; ticked = refl; was_ticked = refl; stopped = refl; awake = refl }; astray = refl; refused = refl }

delivers : (o : Option Exchange) (number : ℕ) (bytes : List ℕ) (s : State) → Joins s (delivered_for o number bytes s)
delivers None number bytes s = joins_none s
delivers (Some e) number bytes s =
    let one : Joins s (joined e bytes s) = joins e.number e.bound bytes s in
    record { knows = record { name = one.knows.name; shares = one.knows.shares; clock = one.knows.clock; ticked = one.knows.ticked; was_ticked = one.knows.was_ticked; stopped = one.knows.stopped; awake = one.knows.awake }; astray = one.astray; refused = one.refused }

pub delivered_stays : (number : ℕ) (bytes : List ℕ) (old new : State) → AreStill old.seats.items new.seats.items → IsButForCells (delivered number bytes old) (record new { seats = old.seats }) → TurnsStay old new
delivered_stays number bytes old new still it =
    let one : Joins old (delivered number bytes old) = delivers (exchange_at number old.flow) number bytes old in
    record {
      parts = seated (parts_of old) (parts_of new) (ap (λ (s : State). s.is_astray) it.rest ∙ one.astray) (ap (λ (s : State). s.refused) it.rest ∙ one.refused) still;
      knows = record {
        name = ap (λ (s : State). s.name.items) it.rest ∙ one.knows.name;
        shares = ap (λ (s : State). s.shares_fetches) it.rest ∙ one.knows.shares;
        clock = ap (λ (s : State). s.now) it.rest ∙ one.knows.clock;
        ticked = ap (λ (s : State). s.is_ticked) it.rest ∙ one.knows.ticked;
        was_ticked = ap (λ (s : State). s.has_ticked) it.rest ∙ one.knows.was_ticked;
        stopped = ap (λ (s : State). s.is_stopped) it.rest ∙ one.knows.stopped;
        awake = ap (λ (s : State). s.awake.items) it.rest ∙ one.knows.awake;
      };
    }
