-- The final head of a response leaves exchanges such as can be asked, whatever was asked; and what is set stays beside the rows that come and go.
use Rattle.std.proofs.Common.{◌≡◌, refl, sym, subst, ap, ◌∙◌, ℕ, Bool, true, false, ◌==◌, ◌&&◌, ◌||◌, not, nat_le, nat_lt, List, [], ◌∷◌, take, Option, Some, None, inl, inr}
use Rattle.std.specs.Prelude.{count_by}
use Rattle.pp_answers.specs.Answers.{not_shared, on_its}
use Rattle.pp_answers.specs.FinalHeads.{AnswersAsk, FillsHead, PassesHead, TakesAim, TakesHead, TakesOwn, TakesPart, cleared_by, counted, is_widened, lacks_next, noted_body, other_head, other_part, part_without_version, relayed, relayed_or_widened, roomed, roomed_by, roomed_for, shared_part, version_in, without_version}
use Rattle.pp_answers.specs.Heads.{names_tag, told_unchanged}
use Rattle.pp_answers.specs.OwnHeads.{clears_row, is_private_part}
use Rattle.pp_answers.specs.Rows.{MakesRow, MakesRowOf, Settles, SettlesRow, in_memory, is_bound, joining, may_refresh, not_modified, not_modified_as, nothing_of, refreshed_at, refreshed_row, refused_row, refusing, refusing_key, renewed, row_or_none, settled_on, times_for, with_room_for}
use Rattle.pp_answers.specs.ThroughHeads.{ClearsEach, ClearsNamed, ClearsOutdated, InvalidatesIf, disproved, invalidates, is_disproved, named_as, places_named}
use Rattle.pp_due.specs.Entering.{HasRowFor, MayCome, with_room_if_over}
use Rattle.pp_flow.specs.Changes.{Exchanges, entry_of}
use Rattle.pp_flow.specs.Entries.{Span, bound_to}
use Rattle.pp_flow.specs.Errands.{attempts_in, named_by}
use Rattle.pp_flow.specs.declared.entry.Aim.{Aim}
use Rattle.pp_flow.specs.declared.entry.Aim.TheVariants.{Own, Hole, Pass as Through}
use Rattle.pp_flow.specs.declared.entry.Entry.{Entry}
use Rattle.pp_flow.specs.declared.entry.Exchange.{Exchange}
use Rattle.pp_flow.specs.declared.errand.Errand.{Errand}
use Rattle.pp_framing.specs.declared.body.BodyRule.{BodyRule}
use Rattle.pp_fresh.specs.Ready.{may_store}
use Rattle.pp_head.specs.Response.{Response}
use Rattle.pp_objects.specs.Instances.{Instance, is_row}
use Rattle.pp_objects.specs.declared.id.ObjectId.{ObjectId}
use Rattle.pp_seats.specs.Courses.{without_shared_row}
use Rattle.pp_seats.specs.declared.seat.Brought.{Brought}
use Rattle.pp_seats.specs.declared.seat.Seat.{Seat}
use Rattle.pp_state.specs.Astray.{astray_where, gone_astray, gone_astray_where}
use Rattle.pp_state.specs.Bodies.{with_body, with_body_for}
use Rattle.pp_state.specs.Ends.{KeepsRest, Parts, bound_by, cleared_key, cleared_of, cleared_row, lost_attempt, made_useless, on_seat_where, parts, seat_for, told_to, unusable}
use Rattle.pp_state.specs.Keys.{key_of}
use Rattle.pp_state.specs.Known.{row_for}
use Rattle.pp_state.specs.Pins.{forgotten_row, idle_row, with_room}
use Rattle.pp_state.specs.declared.state.State.{State}
use Rattle.pp_store.specs.Kept.{KeptMap}
use Rattle.pp_valid.specs.Conditions.{names_other_tag}
use Rattle.pp_valid.specs.declared.version.Version.{Version}
use Rattle.pp_world.specs.declared.access.Source.TheVariants.{Checked}
use Rattle.pp_joints_law.proofs.Askables.{all_changed, can_errand}
use Rattle.pp_joints_law.proofs.Asks.{Can}
use Rattle.pp_joints_law.proofs.ClearedParts.{loses}
use Rattle.pp_places_law.specs.Around.{IsAskable}

-- ---- of clients, exchanges and what is in memory

abbrev pub Goes : Parts → Parts → Type 0
Goes p q = Can p.flow → Can q.flow

pub goes_as : (p q r : Parts) → r ≡ q → Goes p q → Goes p r
goes_as p q r is all can = subst Can (sym (ap (λ (o : Parts). o.flow) is)) (all can)

-- ---- what a request is told, and a row that is cleared

on_one : (o : Option ℕ) (f : Seat → Seat) (p : Parts) → Goes p (on_seat_where o f p)
on_one None f p can = can
on_one (Some i) f p can = can

tells : (e : Exchange) (b : Brought) (p : Parts) → Goes p (told_to e b p)
tells e b p = on_one (seat_for e p.seats) _ p

clears_of : (o : Option (List ℕ)) (p : Parts) → Goes p (cleared_of o p)
clears_of None p can = can
clears_of (Some key) p can = can

clears : (n : ℕ) (p : Parts) → Goes p (cleared_row n p)
clears n p = clears_of (key_of n p.flow) p

bound_can : (to : Option Span) (x : Entry) → IsAskable x → IsAskable (bound_to to x)
bound_can to x ask = record { place = ask.place; short = ask.short }

binds : (n : ℕ) (to : Option Span) (p : Parts) → Goes p (bound_by n to p)
binds n to p can = (can.0, all_changed n (bound_to to) p.flow.placed (bound_can to) can.1)

loses_one : (e : Exchange) (p : Parts) → Goes p (lost_attempt e p)
loses_one e p = (loses e p).can

pub drops : (e : Exchange) (p : Parts) → Goes p (unusable e p)
drops e p can = tells e _ (bound_by e.number None p) (binds e.number None p can)

is_useless : (e : Exchange) (p : Parts) → Goes p (made_useless e p)
is_useless e p can = drops e (lost_attempt e p) (loses_one e p can)

is_not_shared : (e : Exchange) (errand : Errand) (p : Parts) → Goes p (not_shared e errand p)
is_not_shared e errand p can =
    let q : Parts = cleared_row e.number p in
    let f : Seat → Seat = without_shared_row (attempts_in errand.is_asked_once) in
    drops e (on_its e f q) (on_one (seat_for e q.seats) f q (clears e.number p can))

-- ---- a response that is passed

relays : (name : List ℕ) (e : Exchange) (head : Response) (rule : BodyRule) (p : Parts) → Goes p (relayed name e head rule p)
relays name e head rule p = binds e.number None p

clears_by : (e : Exchange) (head : Response) (p : Parts) → Goes p (cleared_by e head p)
clears_by e head p = by (clears_row head || is_private_part head)
  where
    by : (b : Bool) → Goes p (elim b as (λ t. Parts) [ true ↦ cleared_row e.number p | false ↦ p ])
    by true = clears e.number p
    by false = λ can. can

other : (name : List ℕ) (e : Exchange) (errand : Errand) (head : Response) (rule : BodyRule) (p : Parts) → Goes p (other_head name e errand head rule p)
other name e errand head rule p can = by (is_widened errand head) (cleared_by e head p) (clears_by e head p can)
  where
    by : (b : Bool) (q : Parts) → Goes q (relayed_or_widened b name e head rule q)
    by true q can = tells e _ (bound_by e.number None q) (binds e.number None q can)
    by false q can = relays name e head rule q can

-- ---- a response with a version

joins : (e : Exchange) (span : Span) (p q : Parts) → q.flow ≡ (bound_by e.number (Some span) p).flow → (b : Brought) → Goes p (told_to e b q)
joins e span p q same b can = tells e b q (subst Can (sym same) (binds e.number (Some span) p can))

settles_on : (e : Exchange) (errand : Errand) (head : Response) (v : Version) (id : ObjectId) (p : Parts) → Goes p (settled_on e errand head v id p)
settles_on e errand head v id p = joins e _ p _ refl _

renews : (e : Exchange) (errand : Errand) (head : Response) (v : Version) (id : ObjectId) (clock : ℕ) (p : Parts) → Goes p (renewed e errand head v id clock p)
renews e errand head v id clock p = by (may_refresh id head.fields (times_for errand head clock) p.cache)
  where
    by : (b : Bool) → Goes p (elim b as (λ t. Parts) [ true ↦ settled_on e errand head v id (in_memory (refreshed_at id head.fields (times_for errand head clock)) p) | false ↦ made_useless e p ])
    by true = settles_on e errand head v id (in_memory (refreshed_at id head.fields (times_for errand head clock)) p)
    by false = is_useless e p

refreshes : (e : Exchange) (errand : Errand) (head : Response) (id : ObjectId) (clock : ℕ) (p : Parts) → Goes p (refreshed_row e errand head id clock p)
refreshes e errand head id clock p = by (may_refresh id head.fields (times_for errand head clock) p.cache)
  where
    by : (b : Bool) → Goes p (elim b as (λ t. Parts) [ true ↦ joining e (nothing_of id) Checked false (in_memory (refreshed_at id head.fields (times_for errand head clock)) p) | false ↦ made_useless e p ])
    by true = joins e (nothing_of id) (in_memory (refreshed_at id head.fields (times_for errand head clock)) p) _ refl _
    by false = is_useless e p

-- whatever it says of the row
each_told : {U : Type 0} (f : U → Parts) (p : Parts) (shares other named : Bool) (a b c d : U) → Goes p (f a) → Goes p (f b) → Goes p (f c) → Goes p (f d) → Goes p (f (elim shares as (λ t. U) [ false ↦ a | true ↦ elim other as (λ t. U) [ true ↦ b | false ↦ elim named as (λ t. U) [ true ↦ c | false ↦ d ] ] ]))
each_told f p false _ _ a b c d one two three four = one
each_told f p true true _ a b c d one two three four = two
each_told f p true false true a b c d one two three four = three
each_told f p true false false a b c d one two three four = four

either_told : {U : Type 0} (f : U → Parts) (p : Parts) (shares : Bool) (a d : U) → Goes p (f a) → Goes p (f d) → Goes p (f (elim shares as (λ t. U) [ false ↦ a | true ↦ d ]))
either_told f p false a d one four = one
either_told f p true a d one four = four

unmodified : (e : Exchange) (errand : Errand) (head : Response) (clock : ℕ) (p : Parts) → Goes p (not_modified e errand head clock p)
unmodified e errand head clock p = by (row_for e.number p)
  where
    another : Goes p (made_useless e (cleared_row e.number p))
    another can = is_useless e (cleared_row e.number p) (clears e.number p can)

    by : (known : Option (ObjectId × Version)) → Goes p (not_modified_as e errand head clock (told_unchanged head.fields errand.kind known) p)
    by None = either_told (λ u. not_modified_as e errand head clock u p) p (may_store head.fields) _ _ (is_not_shared e errand p) (is_useless e p)
    by (Some row) =
        each_told (λ u. not_modified_as e errand head clock u p) p (may_store head.fields) (names_other_tag head.fields row.1.tag) (names_tag (named_by errand.kind) row.1.tag) _ _ _ _ (is_not_shared e errand p) another (refreshes e errand head row.0 clock p) (is_useless e p)

refuses : (e : Exchange) (p : Parts) → Goes p (refused_row e p)
refuses e p can = tells e _ (bound_by e.number None r) (binds e.number None r (by (key_of e.number q.flow) q (clears e.number p can)))
  where
    q : Parts
    q = cleared_row e.number p

    r : Parts
    r = refusing e.number q

    by : (o : Option (List ℕ)) (q : Parts) → Goes q (refusing_key o q)
    by None q can = can
    by (Some key) q can = can

makes_row : (e : Exchange) (errand : Errand) (head : Response) (v : Version) (clock : ℕ) (key : List ℕ) (p q : Parts) → MakesRow e errand head v clock key p q → Goes p q
makes_row e errand head v clock key p q it = goes_as p (row_or_none e errand head v clock key it.made p) q it.becomes (by it.made)
  where
    by : (o : Option ObjectId) → Goes p (row_or_none e errand head v clock key o p)
    by None = refuses e p
    by (Some id) = joins e _ p _ refl _

makes_of : (e : Exchange) (errand : Errand) (head : Response) (v : Version) (clock : ℕ) (o : Option (List ℕ)) (p q : Parts) → MakesRowOf e errand head v clock o p q → Goes p q
makes_of e errand head v clock None p q it = goes_as p p q it (λ can. can)
makes_of e errand head v clock (Some key) p q it = makes_row e errand head v clock key p q it

settles : (e : Exchange) (errand : Errand) (head : Response) (v : Version) (clock : ℕ) (row : Option (ObjectId × Version)) (p q : Parts) → Settles e errand head v clock row p q → Goes p q
settles e errand head v clock None p q it = makes_of e errand head v clock (key_of e.number p.flow) p q it
settles e errand head v clock (Some row) p q it = by _ it
  where
    by : (b : Bool) → SettlesRow e errand head v clock b row.0 p q → Goes p q
    by true is = goes_as p (renewed e errand head v row.0 clock p) q is (renews e errand head v row.0 clock p)
    by false is = makes_of e errand head v clock (key_of e.number p.flow) p q is

-- ---- a row leaves for another

-- beside clients, exchanges, rows and what is to leave memory
abbrev pub KeepsSet : State → State → Type 0
KeepsSet old new = record new { seats = old.seats; flow = old.flow; cache = old.cache; refused = old.refused; is_astray = old.is_astray; forgotten = old.forgotten; is_evicting = old.is_evicting } ≡ old

pub set_then : (a b c : State) → KeepsSet a b → KeepsSet b c → KeepsSet a c
set_then a b c one two = ap (λ (s : State). record s { seats = a.seats; flow = a.flow; cache = a.cache; refused = a.refused; is_astray = a.is_astray; forgotten = a.forgotten; is_evicting = a.is_evicting }) two ∙ one

pub set_rest : (a b : State) → KeepsRest a b → KeepsSet a b
set_rest a b rest = ap (λ (s : State). record s { forgotten = a.forgotten; is_evicting = a.is_evicting }) rest

pub set_as : (a b c : State) → c ≡ b → KeepsSet a b → KeepsSet a c
set_as a b c is all = subst (λ (s : State). KeepsSet a s) (sym is) all

-- with the exchanges as they are
pub record IsBeside (old new : State) : Type 0 where
  pub set : KeepsSet old new
  pub flow : new.flow ≡ old.flow

beside_same : (s : State) → IsBeside s s
beside_same s = record { set = refl; flow = refl }

beside_as : (a b c : State) → c ≡ b → IsBeside a b → IsBeside a c
beside_as a b c is all = subst (λ (s : State). IsBeside a s) (sym is) all

pub rooms : (s : State) → IsBeside s (with_room s)
rooms s = by (nat_le 1024 (count_by is_row s.cache.instances)) (idle_row s)
  where
    at : (o : Option Instance) → IsBeside s (forgotten_row o s)
    at None = beside_same s
    at (Some i) = record { set = refl; flow = refl }

    by : (b : Bool) (o : Option Instance) → IsBeside s (elim b as (λ t. State) [ true ↦ forgotten_row o s | false ↦ s ])
    by true o = at o
    by false o = beside_same s

rooms_over : (s : State) → IsBeside s (with_room_if_over s)
rooms_over s = by (nat_lt 1024 (count_by is_row s.cache.instances))
  where
    by : (b : Bool) → IsBeside s (elim b as (λ t. State) [ true ↦ with_room s | false ↦ s ])
    by true = rooms s
    by false = beside_same s

pub astray_beside : (b : Bool) (s : State) → IsBeside s (gone_astray_where b s)
astray_beside true s = record { set = refl; flow = refl }
astray_beside false s = beside_same s

comes : (shelf : KeptMap) (key : List ℕ) (old new : State) → MayCome shelf key old new → IsBeside old new
comes shelf key old new (inl it) = record {
  set = ap (λ (s : State). record s { seats = old.seats; flow = old.flow; refused = old.refused; is_astray = old.is_astray; forgotten = old.forgotten; is_evicting = old.is_evicting }) it.rest;
  flow = ap (λ (s : State). s.flow) it.rest;
}
comes shelf key old new (inr it) = beside_as old (gone_astray old) new it (astray_beside true old)

pub row_beside : (shelf : KeptMap) (o : Option (List ℕ)) (old new : State) → HasRowFor shelf o old new → IsBeside old new
row_beside shelf None old new it = beside_as old old new it (beside_same old)
row_beside shelf (Some key) old new it =
    let one : IsBeside old it.entered = comes shelf key old it.entered it.comes in
    let two : IsBeside it.entered (with_room_if_over it.entered) = rooms_over it.entered in
    beside_as old (with_room_if_over it.entered) new it.room (record { set = set_then old it.entered (with_room_if_over it.entered) one.set two.set; flow = two.flow ∙ one.flow })

roomed_row : (o : Option (ObjectId × Version)) (s : State) → IsBeside s (with_room_for o s)
roomed_row None s = rooms s
roomed_row (Some row) s = beside_same s

roomed_beside : (o : Option Version) (n : ℕ) (s : State) → IsBeside s (roomed o n s)
roomed_beside None n s = beside_same s
roomed_beside (Some v) n s = roomed_row (row_for n (parts s)) s

pub head_beside : (head : Response) (o : Option (Entry × BodyRule)) (s : State) → IsBeside s (roomed_by head o s)
head_beside head None s = beside_same s
head_beside head (Some a) s = by a.0.exchange.aim
  where
    by : (aim : Aim) → IsBeside s (roomed_for aim a.0.errand head a.0.exchange.number s)
    by Own = roomed_beside (version_in a.0.errand head) a.0.exchange.number s
    by (Hole v from to) = roomed_beside (version_in a.0.errand head) a.0.exchange.number s
    by Through = beside_same s

-- ---- to the ask of a request, and to that of a follower

module _ (e : Exchange) (errand : Errand) (head : Response) (rule : BodyRule) (s : State) where
  roomed_goes : (q : Parts) → Goes (parts (with_room_for (row_for e.number (parts s)) s)) q → Goes (parts s) q
  roomed_goes q all can = all (subst Can (sym (roomed_row (row_for e.number (parts s)) s).flow) can)

  takes_own : (o : Option Version) (q : Parts) → TakesOwn e errand head rule o s q → Goes (parts s) q
  takes_own None q it = goes_as (parts s) (without_version (head.status == 304) e errand head rule s) q it (by (head.status == 304))
    where
      by : (b : Bool) → Goes (parts s) (without_version b e errand head rule s)
      by true = unmodified e errand head s.now (parts s)
      by false = other s.name.items e errand head rule (parts s)
  takes_own (Some v) q it = roomed_goes q (settles e errand head v s.now (row_for e.number (parts s)) (parts (with_room_for (row_for e.number (parts s)) s)) q it)

  takes_part : (o : Option Version) (q : Parts) → TakesPart e errand head rule o s q → Goes (parts s) q
  takes_part None q it = goes_as (parts s) (part_without_version (head.status == 304) e errand head rule s) q it (by (head.status == 304))
    where
      shared : (b : Bool) → Goes (parts s) (shared_part b s.name.items e head rule (parts s))
      shared true = λ can. relays s.name.items e head rule (cleared_row e.number (parts s)) (clears e.number (parts s) can)
      shared false = is_useless e (parts s)

      private : (b : Bool) → Goes (parts s) (other_part b s.name.items e errand head rule (parts s))
      private true = is_not_shared e errand (parts s)
      private false = shared (clears_row head)

      by : (b : Bool) → Goes (parts s) (part_without_version b e errand head rule s)
      by true = unmodified e errand head s.now (parts s)
      by false = private (is_private_part head)
  takes_part (Some v) q it = roomed_goes q (settles e errand head v s.now (row_for e.number (parts s)) (parts (with_room_for (row_for e.number (parts s)) s)) q it)

  counts : (p : Parts) → Goes p (counted e p)
  counts p = by (is_bound e.number p.flow && lacks_next e.number p)
    where
      by : (b : Bool) → Goes p (elim b as (λ t. Parts) [ true ↦ lost_attempt e p | false ↦ p ])
      by true = loses_one e p
      by false = λ can. can

  fills : (q : Parts) → FillsHead e errand head rule s q → Goes (parts s) q
  fills q it = goes_as (parts s) (counted e it.between) q it.elsewhere (λ can. counts it.between (takes_part (version_in errand head) it.between it.taken can))

-- ---- one that is passed, whatever it tells of rows

named : (site text : List ℕ) (p q : Parts) → ClearsNamed site text p q → Goes p q
named site text p q it = goes_as p (astray_where (not it.is_read) r) q it.cleared (by (not it.is_read))
  where
    r : Parts
    r = cleared_of (named_as it.is_read site text) p

    by : (b : Bool) → Goes p (astray_where b r)
    by true = clears_of (named_as it.is_read site text) p
    by false = clears_of (named_as it.is_read site text) p

all_named : (site : List ℕ) (texts : List (List ℕ)) (p q : Parts) → ClearsEach site texts p q → Goes p q
all_named site [] p q it = goes_as p p q it (λ can. can)
all_named site (text ∷ texts) p q it = λ can. all_named site texts it.0 q it.2 (named site text p it.0 it.1 can)

invalid : (b : Bool) (o : Option (List ℕ)) (path : ℕ) (head : Response) (p q : Parts) → InvalidatesIf b o path head p q → Goes p q
invalid false o path head p q it = goes_as p p q it (λ can. can)
invalid true None path head p q it = goes_as p p q it (λ can. can)
invalid true (Some key) path head p q it = all_named (take path key) (places_named head) (cleared_key key p) q it

disproves : (e : Exchange) (errand : Errand) (head : Response) (p : Parts) → Goes p (disproved e errand head p)
disproves e errand head p = by (is_disproved e errand head p)
  where
    by : (b : Bool) → Goes p (elim b as (λ t. Parts) [ true ↦ cleared_row e.number p | false ↦ p ])
    by true = clears e.number p
    by false = λ can. can

passes : (name : List ℕ) (e : Exchange) (errand : Errand) (head : Response) (rule : BodyRule) (p q : Parts) → PassesHead name e errand head rule p q → Goes p q
passes name e errand head rule p q it = goes_as p (relayed name e head rule it.between) q it.passed (λ can. relays name e head rule it.between (outdated it.outdated can))
  where
    outdated : ClearsOutdated e errand head p it.between → Goes p it.between
    outdated one = goes_as p (disproved e errand head one.between) it.between one.cleared (λ can. disproves e errand head one.between (invalid (invalidates errand.is_safe head) (key_of e.number p.flow) errand.place.path head p one.between one.invalidated can))

-- ---- by what was asked

takes : (aim : Aim) (e : Exchange) (errand : Errand) (head : Response) (rule : BodyRule) (s : State) (q : Parts) → TakesAim aim e errand head rule s q → Goes (parts s) q
takes Own e errand head rule s q it = takes_own e errand head rule s (version_in errand head) q it
takes (Hole v from to) e errand head rule s q it = fills e errand head rule s q it
takes Through e errand head rule s q it = passes s.name.items e errand head rule (parts s) q it

pub body_can : (n : ℕ) (seats : List Seat) (f : Exchanges) → Can f → Can (with_body n seats f)
body_can n seats f can = by (entry_of n f) refl
  where
    by : (o : Option Entry) → entry_of n f ≡ o → Can (with_body_for o n seats f)
    by None is = can
    by (Some e) is = can_errand n _ f e is refl can

takes_head : (n : ℕ) (e : Exchange) (errand : Errand) (head : Response) (rule : BodyRule) (s : State) (q : Parts) → TakesHead n e errand head rule s q → Goes (parts s) q
takes_head n e errand head rule s q it = goes_as (parts s) (noted_body n it.between) q it.noted (λ can. body_can n it.between.seats it.between.flow (takes e.aim e errand head rule s it.between it.taken can))

pub answers : (n : ℕ) (head : Response) (o : Option (Entry × BodyRule)) (s : State) (q : Parts) → AnswersAsk n head o s q → Goes (parts s) q
answers n head None s q it = goes_as (parts s) (parts s) q it (λ can. can)
answers n head (Some a) s q it = takes_head n a.0.exchange a.0.errand head a.1 s q it
