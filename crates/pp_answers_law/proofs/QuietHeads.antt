-- No life is given, and nothing is joined but these, where the final head of a response changes clients and rows; but where it makes a row.
use Rattle.std.proofs.Common.{◌≡◌, ◌⊎◌, inl, refl, sym, subst, ℕ, Bool, true, false, ◌&&◌, ◌||◌, List, Option, Some, None}
use Rattle.pp_answers.specs.Answers.{not_shared, on_its}
use Rattle.pp_answers.specs.FinalHeads.{cleared_by, is_widened, other_head, relayed, relayed_or_widened}
use Rattle.pp_answers.specs.Heads.{names_tag, told_unchanged}
use Rattle.pp_answers.specs.OwnHeads.{clears_row, is_private_part}
use Rattle.pp_answers.specs.Rows.{IsNew, MakesRow, MakesRowOf, Settles, SettlesRow, accounted, in_memory, joining, made_row, may_refresh, not_modified, not_modified_as, not_refused, nothing_of, refreshed_at, refreshed_row, refused_row, refusing, refusing_key, renewed, row_or_none, settled_on, span_for, times_for}
use Rattle.pp_cache.specs.Memory.{with_outdated, with_row}
use Rattle.pp_flow.specs.Entries.{Span}
use Rattle.pp_flow.specs.Errands.{attempts_in, named_by}
use Rattle.pp_flow.specs.declared.entry.Aim.{Aim}
use Rattle.pp_flow.specs.declared.entry.Aim.TheVariants.{Own, Hole, Pass as Through}
use Rattle.pp_flow.specs.declared.entry.Exchange.{Exchange}
use Rattle.pp_flow.specs.declared.errand.Errand.{Errand}
use Rattle.pp_framing.specs.declared.body.BodyRule.{BodyRule}
use Rattle.pp_fresh.specs.Ready.{may_store}
use Rattle.pp_head.specs.Response.{Response}
use Rattle.pp_objects.specs.Instances.{is_there}
use Rattle.pp_objects.specs.declared.id.ObjectId.{ObjectId}
use Rattle.pp_seats.specs.Courses.{without_shared_row}
use Rattle.pp_seats.specs.Heads.{asked_in}
use Rattle.pp_seats.specs.declared.front.Asked.{Asked}
use Rattle.pp_seats.specs.declared.seat.Brought.{Brought}
use Rattle.pp_seats.specs.declared.seat.Brought.TheVariants.{Joins, Refused, TooWide, Useless}
use Rattle.pp_seats.specs.declared.seat.Seat.{Seat}
use Rattle.pp_state.specs.Accounts.{brought_by, with_source}
use Rattle.pp_state.specs.Ends.{Parts, bound_by, cleared_row, lost_attempt, made_useless, seat_for, told, told_to, unusable}
use Rattle.pp_state.specs.Keys.{key_of}
use Rattle.pp_state.specs.Known.{row_for}
use Rattle.pp_state.specs.Passing.{head_for, may_answer, passed_on, passed_to, with_head}
use Rattle.pp_valid.specs.Conditions.{names_other_tag}
use Rattle.pp_valid.specs.declared.version.Version.{Version}
use Rattle.pp_world.specs.declared.access.Source.{Source}
use Rattle.pp_world.specs.declared.access.Source.TheVariants.{Checked, Fetched}
use Rattle.pp_answers_law.proofs.Joining.{Joining, joined_anew, joined_asker, joined_none, joined_then, shared_joining, told_joining}
use Rattle.pp_answers_law.proofs.QuietCosts.{Quiet, q_attempt, q_beside, q_is, q_none, q_row, q_then, q_where}
use Rattle.pp_answers_law.specs.Joined.{JoinedOr}

first_true : (a b : Bool) → (a && b) ≡ true → a ≡ true
first_true true b is = refl
first_true false b is = is

module _ (G : ObjectId → Type 0) where
  -- ---- what a request is told

  q_told : (e : Exchange) (b : Brought) (p : Parts) → ((id : ObjectId) (plain : Bool) → b ≡ Joins id plain → G id) → Quiet G p (told_to e b p)
  q_told e b p named = q_where G (seat_for e p.seats) (told b) p (told_joining G b named)

  -- its body belongs elsewhere
  q_bound : (n : ℕ) (to : Option Span) (p : Parts) → Quiet G p (bound_by n to p)
  q_bound n to p = q_beside G p p (bound_by n to p) refl refl (q_none G p)

  q_unusable : (e : Exchange) (p : Parts) → Quiet G p (unusable e p)
  q_unusable e p = let b : Parts = bound_by e.number None p in q_then G p b (unusable e p) (q_bound e.number None p) (q_told e Useless b (λ id plain is. absurd (cc is)))

  pub q_useless : (e : Exchange) (p : Parts) → Quiet G p (made_useless e p)
  q_useless e p = q_then G p (lost_attempt e p) (made_useless e p) (q_attempt G e p) (q_unusable e (lost_attempt e p))

  pub q_not_shared : (e : Exchange) (errand : Errand) (p : Parts) → Quiet G p (not_shared e errand p)
  q_not_shared e errand p =
      let q : Parts = cleared_row e.number p in
      let r : Parts = on_its e (without_shared_row (attempts_in errand.is_asked_once)) q in
      q_then G p r (not_shared e errand p)
      (q_then G p q r (q_row G e.number p) (q_where G (seat_for e q.seats) (without_shared_row (attempts_in errand.is_asked_once)) q (shared_joining G (attempts_in errand.is_asked_once))))
      (q_unusable e r)

  -- ---- a response that is passed

  passed_joining : (name : List ℕ) (head : Response) (rule : BodyRule) → Joining G (passed_to name head rule)
  passed_joining name head rule seat id plain is = by (asked_in seat.front) (may_answer seat.client) is
    where
      at : (a : Asked) (b : Bool) → (elim b as (λ t. Seat) [ true ↦ with_head (head_for name head rule a) head rule a seat | false ↦ seat ]).brought ≡ Joins id plain → (seat.brought ≡ Joins id plain) ⊎ G id
      at a true it = absurd (cc it)
      at a false it = inl it

      by : (o : Option Asked) (b : Bool) → (passed_on name head rule o b seat).brought ≡ Joins id plain → (seat.brought ≡ Joins id plain) ⊎ G id
      by None b it = inl it
      by (Some a) b it = at a b it

  pub q_relayed : (name : List ℕ) (e : Exchange) (head : Response) (rule : BodyRule) (p : Parts) → Quiet G p (relayed name e head rule p)
  q_relayed name e head rule p = record { joined = joined_asker G e (passed_to name head rule) p.seats (passed_joining name head rule); lives = refl }

  q_clears : (e : Exchange) (head : Response) (p : Parts) → Quiet G p (cleared_by e head p)
  q_clears e head p = by (clears_row head || is_private_part head)
    where
      by : (b : Bool) → Quiet G p (elim b as (λ t. Parts) [ true ↦ cleared_row e.number p | false ↦ p ])
      by true = q_row G e.number p
      by false = q_none G p

  pub q_other : (name : List ℕ) (e : Exchange) (errand : Errand) (head : Response) (rule : BodyRule) (p : Parts) → Quiet G p (other_head name e errand head rule p)
  q_other name e errand head rule p =
      let q : Parts = cleared_by e head p in
      q_then G p q (other_head name e errand head rule p) (q_clears e head p) (by (is_widened errand head) q)
    where
      by : (b : Bool) (q : Parts) → Quiet G q (relayed_or_widened b name e head rule q)
      by true q = let b : Parts = bound_by e.number None q in q_then G q b (told_to e TooWide b) (q_bound e.number None q) (q_told e TooWide b (λ id plain is. absurd (cc is)))
      by false q = q_relayed name e head rule q

  -- ---- a response that joins a row

  q_accounted : (e : Exchange) (source : Source) (p : Parts) → Quiet G p (accounted e source p)
  q_accounted e source p = record { joined = by e.aim; lives = refl }
    where
      by : (aim : Aim) → JoinedOr G p.seats (brought_by aim e source p.seats)
      by Own = joined_asker G e (with_source source) p.seats (λ seat id plain is. inl is)
      by (Hole v from to) = joined_none G p.seats
      by Through = joined_none G p.seats

  q_joins : (e : Exchange) (span : Span) (source : Source) (plain : Bool) (p : Parts) → G span.0 → Quiet G p (joining e span source plain p)
  q_joins e span source plain p named =
      let b : Parts = bound_by e.number (Some span) p in
      let a : Parts = accounted e source b in
      q_then G p a (joining e span source plain p) (q_then G p b a (q_bound e.number (Some span) p) (q_accounted e source b)) (q_told e (Joins span.0 plain) a (λ id other is. subst (λ (i : ObjectId). G i) (same span.0 id plain other is) named))
    where
      same : (a b : ObjectId) (c d : Bool) → Joins a c ≡ Joins b d → a ≡ b
      same a b c d is = cc is

  q_settled : (e : Exchange) (errand : Errand) (head : Response) (v : Version) (id : ObjectId) (p : Parts) → G id → Quiet G p (settled_on e errand head v id p)
  q_settled e errand head v id p named = q_joins e (span_for errand head v id) Fetched _ p named

  pub q_renewed : (e : Exchange) (errand : Errand) (head : Response) (v : Version) (id : ObjectId) (clock : ℕ) (p : Parts) → (is_there id p.cache.instances ≡ true → G id) → Quiet G p (renewed e errand head v id clock p)
  q_renewed e errand head v id clock p named = by (may_refresh id head.fields (times_for errand head clock) p.cache) refl
    where
      m : Parts
      m = in_memory (refreshed_at id head.fields (times_for errand head clock)) p

      by : (b : Bool) → may_refresh id head.fields (times_for errand head clock) p.cache ≡ b → Quiet G p (elim b as (λ t. Parts) [ true ↦ settled_on e errand head v id m | false ↦ made_useless e p ])
      by true may = q_then G p m (settled_on e errand head v id m) (q_beside G p p m refl refl (q_none G p)) (q_settled e errand head v id m (named (first_true (is_there id p.cache.instances) _ may)))
      by false may = q_useless e p

  -- a 304 says so of the row
  q_refreshed : (e : Exchange) (errand : Errand) (head : Response) (id : ObjectId) (clock : ℕ) (p : Parts) → (is_there id p.cache.instances ≡ true → G id) → Quiet G p (refreshed_row e errand head id clock p)
  q_refreshed e errand head id clock p named = by (may_refresh id head.fields (times_for errand head clock) p.cache) refl
    where
      m : Parts
      m = in_memory (refreshed_at id head.fields (times_for errand head clock)) p

      by : (b : Bool) → may_refresh id head.fields (times_for errand head clock) p.cache ≡ b → Quiet G p (elim b as (λ t. Parts) [ true ↦ joining e (nothing_of id) Checked false m | false ↦ made_useless e p ])
      by true may = q_then G p m (joining e (nothing_of id) Checked false m) (q_beside G p p m refl refl (q_none G p)) (q_joins e (nothing_of id) Checked false m (named (first_true (is_there id p.cache.instances) _ may)))
      by false may = q_useless e p

  -- whatever it says of the row
  each_told : {U : Type 0} (f : U → Parts) (p : Parts) (shares other named : Bool) (a b c d : U) → Quiet G p (f a) → Quiet G p (f b) → Quiet G p (f c) → Quiet G p (f d)
      → Quiet G p (f (elim shares as (λ t. U) [ false ↦ a | true ↦ elim other as (λ t. U) [ true ↦ b | false ↦ elim named as (λ t. U) [ true ↦ c | false ↦ d ] ] ]))
  each_told f p false other named a b c d one two three four = one
  each_told f p true true named a b c d one two three four = two
  each_told f p true false true a b c d one two three four = three
  each_told f p true false false a b c d one two three four = four

  either_told : {U : Type 0} (f : U → Parts) (p : Parts) (shares : Bool) (a d : U) → Quiet G p (f a) → Quiet G p (f d) → Quiet G p (f (elim shares as (λ t. U) [ false ↦ a | true ↦ d ]))
  either_told f p false a d one four = one
  either_told f p true a d one four = four

  pub q_unmodified : (e : Exchange) (errand : Errand) (head : Response) (clock : ℕ) (p : Parts) → ((id : ObjectId) → is_there id p.cache.instances ≡ true → G id) → Quiet G p (not_modified e errand head clock p)
  q_unmodified e errand head clock p given = by (row_for e.number p)
    where
      another : Quiet G p (made_useless e (cleared_row e.number p))
      another = q_then G p (cleared_row e.number p) (made_useless e (cleared_row e.number p)) (q_row G e.number p) (q_useless e (cleared_row e.number p))

      by : (known : Option (ObjectId × Version)) → Quiet G p (not_modified_as e errand head clock (told_unchanged head.fields errand.kind known) p)
      by None = either_told (λ u. not_modified_as e errand head clock u p) p (may_store head.fields) _ _ (q_not_shared e errand p) (q_useless e p)
      by (Some row) =
          each_told (λ u. not_modified_as e errand head clock u p) p (may_store head.fields) (names_other_tag head.fields row.1.tag) (names_tag (named_by errand.kind) row.1.tag) _ _ _ _ (q_not_shared e errand p) another
          (q_refreshed e errand head row.0 clock p (given row.0)) (q_useless e p)

  -- ---- a new row: its life is given

  refuses : (e : Exchange) (p : Parts) → JoinedOr G p.seats (refused_row e p).seats
  refuses e p =
      let q : Parts = cleared_row e.number p in
      let r : Parts = refusing e.number q in
      let b : Parts = bound_by e.number None r in
      joined_then G p.seats q.seats (refused_row e p).seats (q_row G e.number p).joined
      (joined_then G q.seats r.seats (refused_row e p).seats (by (key_of e.number q.flow) q) (q_told e Refused b (λ id plain is. absurd (cc is))).joined)
    where
      by : (o : Option (List ℕ)) (q : Parts) → JoinedOr G q.seats (refusing_key o q).seats
      by None q = joined_none G q.seats
      by (Some key) q = joined_none G q.seats

  makes : (e : Exchange) (errand : Errand) (head : Response) (v : Version) (clock : ℕ) (key : List ℕ) (id : ObjectId) (p : Parts) → G id → JoinedOr G p.seats (made_row e errand head v clock key id p).seats
  makes e errand head v clock key id p named =
      let m : Parts = in_memory (λ k. with_outdated key (with_row id key v head.fields (times_for errand head clock) k)) p in
      joined_then G p.seats (not_refused key m).seats (made_row e errand head v clock key id p).seats (joined_anew G key p.refused p.seats) (q_settled e errand head v id (not_refused key m) named).joined

  makes_row : (e : Exchange) (errand : Errand) (head : Response) (v : Version) (clock : ℕ) (key : List ℕ) (p q : Parts) → ((id : ObjectId) → IsNew (Some id) p.cache → q ≡ made_row e errand head v clock key id p → G id) → MakesRow e errand head v clock key p q → JoinedOr G p.seats q.seats
  makes_row e errand head v clock key p q new it = by it.made it.is_new it.becomes
    where
      by : (o : Option ObjectId) → IsNew o p.cache → q ≡ row_or_none e errand head v clock key o p → JoinedOr G p.seats q.seats
      by None is becomes = subst (λ (r : Parts). JoinedOr G p.seats r.seats) (sym becomes) (refuses e p)
      by (Some id) is becomes = subst (λ (r : Parts). JoinedOr G p.seats r.seats) (sym becomes) (makes e errand head v clock key id p (new id is becomes))

  pub joined_made : (e : Exchange) (errand : Errand) (head : Response) (v : Version) (clock : ℕ) (o : Option (List ℕ)) (p q : Parts) → ((key : List ℕ) (id : ObjectId) → IsNew (Some id) p.cache → q ≡ made_row e errand head v clock key id p → G id) → MakesRowOf e errand head v clock o p q → JoinedOr G p.seats q.seats
  joined_made e errand head v clock None p q new it = subst (λ (r : Parts). JoinedOr G p.seats r.seats) (sym it) (joined_none G p.seats)
  joined_made e errand head v clock (Some key) p q new it = makes_row e errand head v clock key p q (new key) it

  -- by the row that stands
  pub joined_settles : (e : Exchange) (errand : Errand) (head : Response) (v : Version) (clock : ℕ) (o : Option (ObjectId × Version)) (p q : Parts) → ((id : ObjectId) → is_there id p.cache.instances ≡ true → G id)
      → ((key : List ℕ) (id : ObjectId) → IsNew (Some id) p.cache → q ≡ made_row e errand head v clock key id p → G id) → Settles e errand head v clock o p q → JoinedOr G p.seats q.seats
  joined_settles e errand head v clock None p q given new it = joined_made e errand head v clock (key_of e.number p.flow) p q new it
  joined_settles e errand head v clock (Some row) p q given new it = by _ it
    where
      by : (b : Bool) → SettlesRow e errand head v clock b row.0 p q → JoinedOr G p.seats q.seats
      by true is = (q_is G p (renewed e errand head v row.0 clock p) q is (q_renewed e errand head v row.0 clock p (given row.0))).joined
      by false is = joined_made e errand head v clock (key_of e.number p.flow) p q new is
