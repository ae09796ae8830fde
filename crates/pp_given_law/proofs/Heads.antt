-- What holds of each client holds behind the final head of a response.
use Rattle.std.proofs.Common.{◌≡◌, refl, ℕ, Bool, true, false, ◌&&◌, ◌||◌, not, cond, List, Option, Some, None}
use Rattle.pp_answers.specs.Answers.{not_shared, on_its}
use Rattle.pp_answers.specs.FinalHeads.{cleared_by, is_widened, other_head, relayed, relayed_or_widened}
use Rattle.pp_answers.specs.OwnHeads.{clears_row, is_private_part}
use Rattle.pp_answers.specs.Rows.{MakesRow, MakesRowOf, Settles, SettlesRow, accounted, joining, made_row, may_refresh, not_modified, not_modified_as, not_refused, nothing_of, refreshed_at, refreshed_row, refused_row, renewed, row_or_none, settled_on, span_for, times_for, in_memory}
use Rattle.pp_answers.specs.Heads.{names_tag, told_unchanged}
use Rattle.pp_cache.specs.Memory.{with_outdated, with_row}
use Rattle.pp_flow.specs.Entries.{Span}
use Rattle.pp_flow.specs.Errands.{attempts_in, named_by}
use Rattle.pp_flow.specs.declared.entry.Aim.{Aim}
use Rattle.pp_flow.specs.declared.entry.Aim.TheVariants.{Own, Hole, Pass as Through}
use Rattle.pp_flow.specs.declared.entry.Exchange.{Exchange}
use Rattle.pp_flow.specs.declared.errand.Errand.{Errand}
use Rattle.pp_framing.specs.declared.body.BodyRule.{BodyRule}
use Rattle.pp_fresh.specs.Ready.{may_store}
use Rattle.pp_head.specs.Response.{Response}
use Rattle.pp_objects.specs.declared.id.ObjectId.{ObjectId}
use Rattle.pp_seats.specs.Courses.{has_begun, lost_one, without_row, without_shared_row}
use Rattle.pp_seats.specs.declared.seat.Brought.{Brought}
use Rattle.pp_seats.specs.declared.seat.Brought.TheVariants.{Joins, TooWide, Useless}
use Rattle.pp_seats.specs.declared.seat.Seat.{Seat}
use Rattle.pp_state.specs.Accounts.{brought_by, with_source}
use Rattle.pp_state.specs.Ends.{Parts, bound_by, cleared_row, lost_attempt, made_useless, seat_for, told, told_to, unusable}
use Rattle.pp_state.specs.Keys.{key_of}
use Rattle.pp_state.specs.Known.{row_for}
use Rattle.pp_state.specs.Passing.{passed_to}
use Rattle.pp_valid.specs.Conditions.{names_other_tag}
use Rattle.pp_valid.specs.declared.version.Version.{Version}
use Rattle.pp_world.specs.declared.access.Source.{Source}
use Rattle.pp_world.specs.declared.access.Source.TheVariants.{Fetched, Checked}
use Rattle.pp_seats.specs.Dues.{is_refused_in}
use Rattle.pp_stays_law.proofs.Onward.{row_on}
use Rattle.pp_stays_law.proofs.Walk.{AllAt}
use Rattle.pp_given_law.proofs.Carried.{Stay, Suits, asker_all, becomes, from_other, onward, same, seated, stay_same, stay_then, strays, where_stays}
use Rattle.pp_given_law.proofs.Costs.{anew_all, attempt_lost, clears_one}

module _ (S : Seat → Type 0) (Fits : List ℕ → Response → BodyRule → Type 0) (suits : Suits S Fits) where
  -- ---- what a request is told

  tells : (e : Exchange) (b : Brought) (p : Parts) → is_refused_in b ≡ false → Stay S p (told_to e b p)
  tells e b p given = where_stays S (seat_for e p.seats) (told b) p (λ seat its. by seat its (has_begun seat))
    where
      by : (seat : Seat) → S seat → (t : Bool) → S (cond t seat (record seat { brought = b }))
      by seat its true = its
      by seat its false = suits.carry seat (record seat { brought = b }) (λ is. given) (λ is. is) its

  is_unusable : (e : Exchange) (p : Parts) → Stay S p (unusable e p)
  is_unusable e p = let b : Parts = bound_by e.number None p in from_other p (unusable e p) b.flow p.cache (tells e Useless b refl)

  pub is_useless : (e : Exchange) (p : Parts) → Stay S p (made_useless e p)
  is_useless e p = stay_then p (lost_attempt e p) (made_useless e p) (attempt_lost S Fits suits e p) (is_unusable e (lost_attempt e p))

  shared_seat : (most : ℕ) (seat : Seat) → S seat → S (without_shared_row most seat)
  shared_seat most seat its = by (seat.has_given_up && not (has_begun seat))
    where
      by : (b : Bool) → S (elim b as (λ t. Seat) [ true ↦ record seat { course = lost_one most seat.course } | false ↦ without_row seat ])
      by true = suits.carry seat (record seat { course = lost_one most seat.course }) (λ is. is) (λ is. is) its
      by false = onward suits seat (without_row seat) (row_on seat) its

  pub is_not_shared : (e : Exchange) (errand : Errand) (p : Parts) → Stay S p (not_shared e errand p)
  is_not_shared e errand p =
      let q : Parts = cleared_row e.number p in
      let r : Parts = on_its e (without_shared_row (attempts_in errand.is_asked_once)) q in
      stay_then p r (not_shared e errand p)
      (stay_then p q r (clears_one S Fits suits e.number p) (where_stays S (seat_for e q.seats) (without_shared_row (attempts_in errand.is_asked_once)) q (shared_seat (attempts_in errand.is_asked_once))))
      (is_unusable e r)

  -- ---- a response that is passed

  pub relays : (name : List ℕ) (e : Exchange) (head : Response) (rule : BodyRule) (p : Parts) → Fits name head rule → Stay S p (relayed name e head rule p)
  relays name e head rule p fits = seated p (relayed name e head rule p) refl (λ h. asker_all S e (passed_to name head rule) p.seats (λ seat its. suits.passes name head rule seat fits its) h)

  clears_by : (e : Exchange) (head : Response) (p : Parts) → Stay S p (cleared_by e head p)
  clears_by e head p = by (clears_row head || is_private_part head)
    where
      by : (b : Bool) → Stay S p (elim b as (λ t. Parts) [ true ↦ cleared_row e.number p | false ↦ p ])
      by true = clears_one S Fits suits e.number p
      by false = stay_same p

  pub other : (name : List ℕ) (e : Exchange) (errand : Errand) (head : Response) (rule : BodyRule) (p : Parts) → Fits name head rule → Stay S p (other_head name e errand head rule p)
  other name e errand head rule p fits =
      let q : Parts = cleared_by e head p in
      stay_then p q (other_head name e errand head rule p) (clears_by e head p) (by (is_widened errand head) q)
    where
      by : (b : Bool) (q : Parts) → Stay S q (relayed_or_widened b name e head rule q)
      by true q = let b : Parts = bound_by e.number None q in from_other q (told_to e TooWide b) b.flow q.cache (tells e TooWide b refl)
      by false q = relays name e head rule q fits

  -- ---- a response with a version

  accounts : (e : Exchange) (source : Source) (p : Parts) → Stay S p (accounted e source p)
  accounts e source p = seated p (accounted e source p) refl (by e.aim)
    where
      by : (aim : Aim) → AllAt S p.seats → AllAt S (brought_by aim e source p.seats)
      by Own h = asker_all S e (with_source source) p.seats (λ seat its. suits.carry seat (with_source source seat) (λ is. is) (λ is. is) its) h
      by (Hole v from to) h = h
      by Through h = h

  joins : (e : Exchange) (span : Span) (source : Source) (plain : Bool) (p : Parts) → Stay S p (joining e span source plain p)
  joins e span source plain p =
      let b : Parts = bound_by e.number (Some span) p in
      stay_then p (accounted e source b) (joining e span source plain p) (from_other p (accounted e source b) b.flow p.cache (accounts e source b)) (tells e (Joins span.0 plain) (accounted e source b) refl)

  settles_on : (e : Exchange) (errand : Errand) (head : Response) (v : Version) (id : ObjectId) (p : Parts) → Stay S p (settled_on e errand head v id p)
  settles_on e errand head v id p = joins e (span_for errand head v id) Fetched _ p

  renews : (e : Exchange) (errand : Errand) (head : Response) (v : Version) (id : ObjectId) (clock : ℕ) (p : Parts) → Stay S p (renewed e errand head v id clock p)
  renews e errand head v id clock p = by (may_refresh id head.fields (times_for errand head clock) p.cache)
    where
      by : (b : Bool) → Stay S p (elim b as (λ t. Parts) [ true ↦ settled_on e errand head v id (in_memory (refreshed_at id head.fields (times_for errand head clock)) p) | false ↦ made_useless e p ])
      by true = let m : Parts = in_memory (refreshed_at id head.fields (times_for errand head clock)) p in from_other p (settled_on e errand head v id m) p.flow m.cache (settles_on e errand head v id m)
      by false = is_useless e p

  refreshes : (e : Exchange) (errand : Errand) (head : Response) (id : ObjectId) (clock : ℕ) (p : Parts) → Stay S p (refreshed_row e errand head id clock p)
  refreshes e errand head id clock p = by (may_refresh id head.fields (times_for errand head clock) p.cache)
    where
      by : (b : Bool) → Stay S p (elim b as (λ t. Parts) [ true ↦ joining e (nothing_of id) Checked false (in_memory (refreshed_at id head.fields (times_for errand head clock)) p) | false ↦ made_useless e p ])
      by true = let m : Parts = in_memory (refreshed_at id head.fields (times_for errand head clock)) p in from_other p (joining e (nothing_of id) Checked false m) p.flow m.cache (joins e (nothing_of id) Checked false m)
      by false = is_useless e p

  -- whatever it says of the row
  each_told : {U : Type 0} (f : U → Parts) (p : Parts) (shares other named : Bool) (a b c d : U) → Stay S p (f a) → Stay S p (f b) → Stay S p (f c) → Stay S p (f d) → Stay S p (f (elim shares as (λ t. U) [ false ↦ a | true ↦ elim other as (λ t. U) [ true ↦ b | false ↦ elim named as (λ t. U) [ true ↦ c | false ↦ d ] ] ]))
  each_told f p false other named a b c d one two three four = one
  each_told f p true true named a b c d one two three four = two
  each_told f p true false true a b c d one two three four = three
  each_told f p true false false a b c d one two three four = four

  either_told : {U : Type 0} (f : U → Parts) (p : Parts) (shares : Bool) (a d : U) → Stay S p (f a) → Stay S p (f d) → Stay S p (f (elim shares as (λ t. U) [ false ↦ a | true ↦ d ]))
  either_told f p false a d one four = one
  either_told f p true a d one four = four

  pub unmodified : (e : Exchange) (errand : Errand) (head : Response) (clock : ℕ) (p : Parts) → Stay S p (not_modified e errand head clock p)
  unmodified e errand head clock p = by (row_for e.number p)
    where
      another : Stay S p (made_useless e (cleared_row e.number p))
      another = stay_then p (cleared_row e.number p) (made_useless e (cleared_row e.number p)) (clears_one S Fits suits e.number p) (is_useless e (cleared_row e.number p))

      by : (known : Option (ObjectId × Version)) → Stay S p (not_modified_as e errand head clock (told_unchanged head.fields errand.kind known) p)
      by None = either_told (λ u. not_modified_as e errand head clock u p) p (may_store head.fields) _ _ (is_not_shared e errand p) (is_useless e p)
      by (Some row) =
          each_told (λ u. not_modified_as e errand head clock u p) p (may_store head.fields) (names_other_tag head.fields row.1.tag) (names_tag (named_by errand.kind) row.1.tag) _ _ _ _ (is_not_shared e errand p) another (refreshes e errand head row.0 clock p) (is_useless e p)

  makes_none : (e : Exchange) (p : Parts) → Stay S p (refused_row e p)
  makes_none e p = strays p (refused_row e p) refl

  makes : (e : Exchange) (errand : Errand) (head : Response) (v : Version) (clock : ℕ) (key : List ℕ) (id : ObjectId) (p : Parts) → Stay S p (made_row e errand head v clock key id p)
  makes e errand head v clock key id p =
      let m : Parts = in_memory (λ m. with_outdated key (with_row id key v head.fields (times_for errand head clock) m)) p in
      stay_then p (not_refused key m) (made_row e errand head v clock key id p) (record { astray = λ on. on; all = λ on h. anew_all S Fits suits key p.refused p.seats h }) (settles_on e errand head v id (not_refused key m))

  makes_row : (e : Exchange) (errand : Errand) (head : Response) (v : Version) (clock : ℕ) (key : List ℕ) (p q : Parts) → MakesRow e errand head v clock key p q → Stay S p q
  makes_row e errand head v clock key p q it = becomes p (row_or_none e errand head v clock key it.made p) q it.becomes (by it.made)
    where
      by : (o : Option ObjectId) → Stay S p (row_or_none e errand head v clock key o p)
      by None = makes_none e p
      by (Some id) = makes e errand head v clock key id p

  makes_of : (e : Exchange) (errand : Errand) (head : Response) (v : Version) (clock : ℕ) (o : Option (List ℕ)) (p q : Parts) → MakesRowOf e errand head v clock o p q → Stay S p q
  makes_of e errand head v clock None p q it = same p q it
  makes_of e errand head v clock (Some key) p q it = makes_row e errand head v clock key p q it

  pub settles : (e : Exchange) (errand : Errand) (head : Response) (v : Version) (clock : ℕ) (row : Option (ObjectId × Version)) (p q : Parts) → Settles e errand head v clock row p q → Stay S p q
  settles e errand head v clock None p q it = makes_of e errand head v clock (key_of e.number p.flow) p q it
  settles e errand head v clock (Some row) p q it = by _ it
    where
      by : (b : Bool) → SettlesRow e errand head v clock b row.0 p q → Stay S p q
      by true is = becomes p (renewed e errand head v row.0 clock p) q is (renews e errand head v row.0 clock p)
      by false is = makes_of e errand head v clock (key_of e.number p.flow) p q is
