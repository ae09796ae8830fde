-- The final head of a response leaves each client at its request.
use Rattle.std.proofs.Common.{refl, ℕ, Bool, true, false, ◌&&◌, ◌||◌, not, cond, List, Option, Some, None}
use Rattle.pp_answers.specs.Answers.{not_shared, on_its}
use Rattle.pp_answers.specs.FinalHeads.{cleared_by, is_widened, other_head, relayed, relayed_or_widened}
use Rattle.pp_answers.specs.OwnHeads.{clears_row, is_private_part}
use Rattle.pp_answers.specs.Rows.{MakesRow, MakesRowOf, Settles, SettlesRow, accounted, joining, made_row, may_refresh, not_modified, not_modified_as, not_refused, nothing_of, refreshed_at, refreshed_row, refused_row, refusing, refusing_key, renewed, row_or_none, settled_on, span_for, times_for, in_memory}
use Rattle.pp_answers.specs.Heads.{names_tag, told_unchanged}
use Rattle.pp_cache.specs.Memory.{with_outdated, with_row}
use Rattle.pp_flow.specs.Entries.{Span}
use Rattle.pp_flow.specs.Errands.{attempts_in, named_by}
use Rattle.pp_flow.specs.declared.entry.Aim.{Aim}
use Rattle.pp_flow.specs.declared.entry.Aim.TheVariants.{Own, Hole, Pass as Through}
use Rattle.pp_flow.specs.declared.entry.Exchange.{Exchange}
use Rattle.pp_flow.specs.declared.errand.Errand.{Errand}
use Rattle.pp_framing.specs.declared.body.BodyRule.{BodyRule}
use Rattle.pp_fresh.specs.Ready.{may_store}
use Rattle.pp_head.specs.Response.{Response}
use Rattle.pp_objects.specs.declared.id.ObjectId.{ObjectId}
use Rattle.pp_seats.specs.Courses.{has_begun, lost_one, without_row, without_shared_row}
use Rattle.pp_seats.specs.Heads.{asked_in}
use Rattle.pp_seats.specs.declared.front.Asked.{Asked}
use Rattle.pp_seats.specs.declared.seat.Brought.{Brought}
use Rattle.pp_seats.specs.declared.seat.Brought.TheVariants.{Joins, Refused, TooWide, Useless}
use Rattle.pp_seats.specs.declared.seat.Seat.{Seat}
use Rattle.pp_state.specs.Accounts.{brought_by, with_source}
use Rattle.pp_state.specs.Ends.{Parts, bound_by, cleared_row, lost_attempt, made_useless, seat_for, told, told_to, unusable}
use Rattle.pp_state.specs.Keys.{key_of}
use Rattle.pp_state.specs.Known.{row_for}
use Rattle.pp_state.specs.Passing.{head_for, may_answer, passed_on, passed_to, with_head}
use Rattle.pp_valid.specs.Conditions.{names_other_tag}
use Rattle.pp_valid.specs.declared.version.Version.{Version}
use Rattle.pp_world.specs.declared.access.Source.{Source}
use Rattle.pp_world.specs.declared.access.Source.TheVariants.{Fetched, Checked}
use Rattle.pp_reads_law.proofs.Costs.{attempt_lost, clears_one, row_seat}
use Rattle.pp_reads_law.proofs.Stayed.{Stay, becomes, from_other, same, seated, stay_same, stay_then, unnoted_none, where_stays}
use Rattle.pp_reads_law.proofs.StillClients.{all_anew, asker, itself, none, then}
use Rattle.pp_reads_law.specs.Stays.{AreStill, IsStill}

-- ---- what a request is told

tells_seat : (b : Brought) (seat : Seat) → IsStill seat (told b seat)
tells_seat b seat = by (has_begun seat)
  where
    by : (t : Bool) → IsStill seat (cond t seat (record seat { brought = b }))
    by true = itself seat
    by false = record { id = refl; front = refl; stage = refl; hung_up = refl; closing = refl }

tells : (e : Exchange) (b : Brought) (p : Parts) → Stay p (told_to e b p)
tells e b p = where_stays (seat_for e p.seats) (told b) p (tells_seat b)

is_unusable : (e : Exchange) (p : Parts) → Stay p (unusable e p)
is_unusable e p = let b : Parts = bound_by e.number None p in from_other p (unusable e p) b.flow p.cache (tells e Useless b)

pub is_useless : (e : Exchange) (p : Parts) → Stay p (made_useless e p)
is_useless e p = stay_then p (lost_attempt e p) (made_useless e p) (attempt_lost e p) (is_unusable e (lost_attempt e p))

shared_seat : (most : ℕ) (seat : Seat) → IsStill seat (without_shared_row most seat)
shared_seat most seat = by (seat.has_given_up && not (has_begun seat))
  where
    by : (b : Bool) → IsStill seat (elim b as (λ t. Seat) [ true ↦ record seat { course = lost_one most seat.course } | false ↦ without_row seat ])
    by true = record { id = refl; front = refl; stage = refl; hung_up = refl; closing = refl }
    by false = row_seat seat

pub is_not_shared : (e : Exchange) (errand : Errand) (p : Parts) → Stay p (not_shared e errand p)
is_not_shared e errand p =
    let q : Parts = cleared_row e.number p in
    let r : Parts = on_its e (without_shared_row (attempts_in errand.is_asked_once)) q in
    stay_then p r (not_shared e errand p)
    (stay_then p q r (clears_one e.number p) (where_stays (seat_for e q.seats) (without_shared_row (attempts_in errand.is_asked_once)) q (shared_seat (attempts_in errand.is_asked_once))))
    (is_unusable e r)

-- ---- a response that is passed

head_seat : (name : List ℕ) (head : Response) (rule : BodyRule) (seat : Seat) → IsStill seat (passed_to name head rule seat)
head_seat name head rule seat = by (asked_in seat.front) (may_answer seat.client)
  where
    at : (a : Asked) (b : Bool) → IsStill seat (elim b as (λ t. Seat) [ true ↦ with_head (head_for name head rule a) head rule a seat | false ↦ seat ])
    at a true = record { id = refl; front = refl; stage = refl; hung_up = refl; closing = refl }
    at a false = itself seat

    by : (o : Option Asked) (b : Bool) → IsStill seat (passed_on name head rule o b seat)
    by None b = itself seat
    by (Some a) b = at a b

pub relays : (name : List ℕ) (e : Exchange) (head : Response) (rule : BodyRule) (p : Parts) → Stay p (relayed name e head rule p)
relays name e head rule p = seated p (relayed name e head rule p) refl refl (asker e (passed_to name head rule) p.seats (head_seat name head rule))

clears_by : (e : Exchange) (head : Response) (p : Parts) → Stay p (cleared_by e head p)
clears_by e head p = by (clears_row head || is_private_part head)
  where
    by : (b : Bool) → Stay p (elim b as (λ t. Parts) [ true ↦ cleared_row e.number p | false ↦ p ])
    by true = clears_one e.number p
    by false = stay_same p

pub other : (name : List ℕ) (e : Exchange) (errand : Errand) (head : Response) (rule : BodyRule) (p : Parts) → Stay p (other_head name e errand head rule p)
other name e errand head rule p =
    let q : Parts = cleared_by e head p in
    stay_then p q (other_head name e errand head rule p) (clears_by e head p) (by (is_widened errand head) q)
  where
    by : (b : Bool) (q : Parts) → Stay q (relayed_or_widened b name e head rule q)
    by true q = let b : Parts = bound_by e.number None q in from_other q (told_to e TooWide b) b.flow q.cache (tells e TooWide b)
    by false q = relays name e head rule q

-- ---- a response with a version

accounts : (e : Exchange) (source : Source) (p : Parts) → Stay p (accounted e source p)
accounts e source p = seated p (accounted e source p) refl refl (by e.aim)
  where
    by : (aim : Aim) → AreStill p.seats (brought_by aim e source p.seats)
    by Own = asker e (with_source source) p.seats (λ seat. record { id = refl; front = refl; stage = refl; hung_up = refl; closing = refl })
    by (Hole v from to) = none p.seats
    by Through = none p.seats

joins : (e : Exchange) (span : Span) (source : Source) (plain : Bool) (p : Parts) → Stay p (joining e span source plain p)
joins e span source plain p =
    let b : Parts = bound_by e.number (Some span) p in
    stay_then p (accounted e source b) (joining e span source plain p) (from_other p (accounted e source b) b.flow p.cache (accounts e source b)) (tells e (Joins span.0 plain) (accounted e source b))

settles_on : (e : Exchange) (errand : Errand) (head : Response) (v : Version) (id : ObjectId) (p : Parts) → Stay p (settled_on e errand head v id p)
settles_on e errand head v id p = joins e (span_for errand head v id) Fetched _ p

renews : (e : Exchange) (errand : Errand) (head : Response) (v : Version) (id : ObjectId) (clock : ℕ) (p : Parts) → Stay p (renewed e errand head v id clock p)
renews e errand head v id clock p = by (may_refresh id head.fields (times_for errand head clock) p.cache)
  where
    by : (b : Bool) → Stay p (elim b as (λ t. Parts) [ true ↦ settled_on e errand head v id (in_memory (refreshed_at id head.fields (times_for errand head clock)) p) | false ↦ made_useless e p ])
    by true = let m : Parts = in_memory (refreshed_at id head.fields (times_for errand head clock)) p in from_other p (settled_on e errand head v id m) p.flow m.cache (settles_on e errand head v id m)
    by false = is_useless e p

refreshes : (e : Exchange) (errand : Errand) (head : Response) (id : ObjectId) (clock : ℕ) (p : Parts) → Stay p (refreshed_row e errand head id clock p)
refreshes e errand head id clock p = by (may_refresh id head.fields (times_for errand head clock) p.cache)
  where
    by : (b : Bool) → Stay p (elim b as (λ t. Parts) [ true ↦ joining e (nothing_of id) Checked false (in_memory (refreshed_at id head.fields (times_for errand head clock)) p) | false ↦ made_useless e p ])
    by true = let m : Parts = in_memory (refreshed_at id head.fields (times_for errand head clock)) p in from_other p (joining e (nothing_of id) Checked false m) p.flow m.cache (joins e (nothing_of id) Checked false m)
    by false = is_useless e p

-- whatever it says of the row
each_told : {U : Type 0} (f : U → Parts) (p : Parts) (shares other named : Bool) (a b c d : U) → Stay p (f a) → Stay p (f b) → Stay p (f c) → Stay p (f d) → Stay p (f (elim shares as (λ t. U) [ false ↦ a | true ↦ elim other as (λ t. U) [ true ↦ b | false ↦ elim named as (λ t. U) [ true ↦ c | false ↦ d ] ] ]))
each_told f p false other named a b c d one two three four = one
each_told f p true true named a b c d one two three four = two
each_told f p true false true a b c d one two three four = three
each_told f p true false false a b c d one two three four = four

either_told : {U : Type 0} (f : U → Parts) (p : Parts) (shares : Bool) (a d : U) → Stay p (f a) → Stay p (f d) → Stay p (f (elim shares as (λ t. U) [ false ↦ a | true ↦ d ]))
either_told f p false a d one four = one
either_told f p true a d one four = four

pub unmodified : (e : Exchange) (errand : Errand) (head : Response) (clock : ℕ) (p : Parts) → Stay p (not_modified e errand head clock p)
unmodified e errand head clock p = by (row_for e.number p)
  where
    another : Stay p (made_useless e (cleared_row e.number p))
    another = stay_then p (cleared_row e.number p) (made_useless e (cleared_row e.number p)) (clears_one e.number p) (is_useless e (cleared_row e.number p))

    by : (known : Option (ObjectId × Version)) → Stay p (not_modified_as e errand head clock (told_unchanged head.fields errand.kind known) p)
    by None = either_told (λ u. not_modified_as e errand head clock u p) p (may_store head.fields) _ _ (is_not_shared e errand p) (is_useless e p)
    by (Some row) =
        each_told (λ u. not_modified_as e errand head clock u p) p (may_store head.fields) (names_other_tag head.fields row.1.tag) (names_tag (named_by errand.kind) row.1.tag) _ _ _ _ (is_not_shared e errand p) another (refreshes e errand head row.0 clock p) (is_useless e p)

-- this life goes astray with it
refuses : (e : Exchange) (p : Parts) → Stay p (refused_row e p)
refuses e p = record { clients = seats; astray = λ on. absurd (cc on); refused = λ on. absurd (cc on) }
  where
    by : (o : Option (List ℕ)) (q : Parts) → AreStill q.seats (refusing_key o q).seats
    by None q = none q.seats
    by (Some key) q = none q.seats

    seats : AreStill p.seats (refused_row e p).seats
    seats =
        let q : Parts = cleared_row e.number p in
        then p.seats q.seats (refused_row e p).seats (clears_one e.number p).clients (then q.seats (refusing e.number q).seats (refused_row e p).seats (by (key_of e.number q.flow) q) (tells e Refused (bound_by e.number None (refusing e.number q))).clients)

makes : (e : Exchange) (errand : Errand) (head : Response) (v : Version) (clock : ℕ) (key : List ℕ) (id : ObjectId) (p : Parts) → Stay p (made_row e errand head v clock key id p)
makes e errand head v clock key id p =
    let m : Parts = in_memory (λ m. with_outdated key (with_row id key v head.fields (times_for errand head clock) m)) p in
    stay_then p (not_refused key m) (made_row e errand head v clock key id p) (record { clients = all_anew key p.refused p.seats; astray = λ on. on; refused = λ on none. unnoted_none key p.refused none }) (settles_on e errand head v id (not_refused key m))

makes_row : (e : Exchange) (errand : Errand) (head : Response) (v : Version) (clock : ℕ) (key : List ℕ) (p q : Parts) → MakesRow e errand head v clock key p q → Stay p q
makes_row e errand head v clock key p q it = becomes p (row_or_none e errand head v clock key it.made p) q it.becomes (by it.made)
  where
    by : (o : Option ObjectId) → Stay p (row_or_none e errand head v clock key o p)
    by None = refuses e p
    by (Some id) = makes e errand head v clock key id p

makes_of : (e : Exchange) (errand : Errand) (head : Response) (v : Version) (clock : ℕ) (o : Option (List ℕ)) (p q : Parts) → MakesRowOf e errand head v clock o p q → Stay p q
makes_of e errand head v clock None p q it = same p q it
makes_of e errand head v clock (Some key) p q it = makes_row e errand head v clock key p q it

pub settles : (e : Exchange) (errand : Errand) (head : Response) (v : Version) (clock : ℕ) (row : Option (ObjectId × Version)) (p q : Parts) → Settles e errand head v clock row p q → Stay p q
settles e errand head v clock None p q it = makes_of e errand head v clock (key_of e.number p.flow) p q it
settles e errand head v clock (Some row) p q it = by _ it
  where
    by : (b : Bool) → SettlesRow e errand head v clock b row.0 p q → Stay p q
    by true is = becomes p (renewed e errand head v row.0 clock p) q is (renews e errand head v row.0 clock p)
    by false is = makes_of e errand head v clock (key_of e.number p.flow) p q is
