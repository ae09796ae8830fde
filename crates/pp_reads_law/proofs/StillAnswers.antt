-- The final head of a response leaves each client at its request, whatever was asked.
use Rattle.std.proofs.Common.{ℕ, Bool, true, false, ◌==◌, ◌&&◌, not, List, [], ◌∷◌, take, Option, Some, None}
use Rattle.pp_answers.specs.FinalHeads.{AnswersAsk, FillsHead, PassesHead, TakesAim, TakesHead, TakesOwn, TakesPart, counted, lacks_next, noted_body, other_part, part_without_version, relayed, shared_part, version_in, without_version}
use Rattle.pp_answers.specs.OwnHeads.{clears_row, is_private_part}
use Rattle.pp_answers.specs.Rows.{is_bound, with_room_for}
use Rattle.pp_answers.specs.ThroughHeads.{ClearsEach, ClearsNamed, ClearsOutdated, InvalidatesIf, disproved, invalidates, is_disproved, named_as, places_named}
use Rattle.pp_flow.specs.declared.entry.Aim.{Aim}
use Rattle.pp_flow.specs.declared.entry.Aim.TheVariants.{Own, Hole, Pass as Through}
use Rattle.pp_flow.specs.declared.entry.Entry.{Entry}
use Rattle.pp_flow.specs.declared.entry.Exchange.{Exchange}
use Rattle.pp_flow.specs.declared.errand.Errand.{Errand}
use Rattle.pp_framing.specs.declared.body.BodyRule.{BodyRule}
use Rattle.pp_head.specs.Response.{Response}
use Rattle.pp_state.specs.Astray.{astray_where}
use Rattle.pp_state.specs.Ends.{Parts, cleared_key, cleared_of, cleared_row, lost_attempt, parts}
use Rattle.pp_state.specs.Keys.{key_of}
use Rattle.pp_state.specs.Known.{row_for}
use Rattle.pp_state.specs.declared.state.State.{State}
use Rattle.pp_valid.specs.declared.version.Version.{Version}
use Rattle.pp_reads_law.proofs.Costs.{attempt_lost, clears, clears_of, clears_one}
use Rattle.pp_reads_law.proofs.Knows.{beside_stays, roomed_beside}
use Rattle.pp_reads_law.proofs.Stayed.{Stay, becomes, same, stay_same, stay_then}
use Rattle.pp_reads_law.proofs.StillHeads.{is_not_shared, is_useless, other, relays, settles, unmodified}

-- ---- to the ask of a request, and to that of a follower

module _ (e : Exchange) (errand : Errand) (head : Response) (rule : BodyRule) (s : State) where
  roomed : (v : Version) (q : Parts) → Stay (parts (with_room_for (row_for e.number (parts s)) s)) q → Stay (parts s) q
  roomed v q all =
      let t : State = with_room_for (row_for e.number (parts s)) s in
      stay_then (parts s) (parts t) q (beside_stays s t (roomed_beside (Some v) e.number s)) all

  takes_own : (o : Option Version) (q : Parts) → TakesOwn e errand head rule o s q → Stay (parts s) q
  takes_own None q it = becomes (parts s) (without_version (head.status == 304) e errand head rule s) q it (by (head.status == 304))
    where
      by : (b : Bool) → Stay (parts s) (without_version b e errand head rule s)
      by true = unmodified e errand head s.now (parts s)
      by false = other s.name.items e errand head rule (parts s)
  takes_own (Some v) q it = roomed v q (settles e errand head v s.now (row_for e.number (parts s)) (parts (with_room_for (row_for e.number (parts s)) s)) q it)

  pub takes_part : (o : Option Version) (q : Parts) → TakesPart e errand head rule o s q → Stay (parts s) q
  takes_part None q it = becomes (parts s) (part_without_version (head.status == 304) e errand head rule s) q it (by (head.status == 304))
    where
      shared : (b : Bool) → Stay (parts s) (shared_part b s.name.items e head rule (parts s))
      shared true =
          let r : Parts = cleared_row e.number (parts s) in
          stay_then (parts s) r (relayed s.name.items e head rule r) (clears_one e.number (parts s)) (relays s.name.items e head rule r)
      shared false = is_useless e (parts s)

      private : (b : Bool) → Stay (parts s) (other_part b s.name.items e errand head rule (parts s))
      private true = is_not_shared e errand (parts s)
      private false = shared (clears_row head)

      by : (b : Bool) → Stay (parts s) (part_without_version b e errand head rule s)
      by true = unmodified e errand head s.now (parts s)
      by false = private (is_private_part head)
  takes_part (Some v) q it = roomed v q (settles e errand head v s.now (row_for e.number (parts s)) (parts (with_room_for (row_for e.number (parts s)) s)) q it)

  pub counts : (p : Parts) → Stay p (counted e p)
  counts p = by (is_bound e.number p.flow && lacks_next e.number p)
    where
      by : (b : Bool) → Stay p (elim b as (λ t. Parts) [ true ↦ lost_attempt e p | false ↦ p ])
      by true = attempt_lost e p
      by false = stay_same p

  fills : (q : Parts) → FillsHead e errand head rule s q → Stay (parts s) q
  fills q it = becomes (parts s) (counted e it.between) q it.elsewhere (stay_then (parts s) it.between (counted e it.between) (takes_part (version_in errand head) it.between it.taken) (counts it.between))

-- ---- one that is passed, whatever it tells of rows

named : (site text : List ℕ) (p q : Parts) → ClearsNamed site text p q → Stay p q
named site text p q it = becomes p (astray_where (not it.is_read) r) q it.cleared (by (not it.is_read))
  where
    r : Parts
    r = cleared_of (named_as it.is_read site text) p

    by : (b : Bool) → Stay p (astray_where b r)
    by true = record { clients = (clears_of (named_as it.is_read site text) p).clients; astray = λ on. absurd (cc on); refused = λ on. absurd (cc on) }
    by false = clears_of (named_as it.is_read site text) p

all_named : (site : List ℕ) (texts : List (List ℕ)) (p q : Parts) → ClearsEach site texts p q → Stay p q
all_named site [] p q it = same p q it
all_named site (text ∷ texts) p q it = stay_then p it.0 q (named site text p it.0 it.1) (all_named site texts it.0 q it.2)

invalid : (b : Bool) (o : Option (List ℕ)) (path : ℕ) (head : Response) (p q : Parts) → InvalidatesIf b o path head p q → Stay p q
invalid false o path head p q it = same p q it
invalid true None path head p q it = same p q it
invalid true (Some key) path head p q it = stay_then p (cleared_key key p) q (clears key p) (all_named (take path key) (places_named head) (cleared_key key p) q it)

disproves : (e : Exchange) (errand : Errand) (head : Response) (p : Parts) → Stay p (disproved e errand head p)
disproves e errand head p = by (is_disproved e errand head p)
  where
    by : (b : Bool) → Stay p (elim b as (λ t. Parts) [ true ↦ cleared_row e.number p | false ↦ p ])
    by true = clears_one e.number p
    by false = stay_same p

outdated : (e : Exchange) (errand : Errand) (head : Response) (p q : Parts) → ClearsOutdated e errand head p q → Stay p q
outdated e errand head p q it =
    becomes p (disproved e errand head it.between) q it.cleared
    (stay_then p it.between (disproved e errand head it.between) (invalid (invalidates errand.is_safe head) (key_of e.number p.flow) errand.place.path head p it.between it.invalidated) (disproves e errand head it.between))

passes : (name : List ℕ) (e : Exchange) (errand : Errand) (head : Response) (rule : BodyRule) (p q : Parts) → PassesHead name e errand head rule p q → Stay p q
passes name e errand head rule p q it =
    becomes p (relayed name e head rule it.between) q it.passed (stay_then p it.between (relayed name e head rule it.between) (outdated e errand head p it.between it.outdated) (relays name e head rule it.between))

-- ---- by what was asked

takes : (aim : Aim) (e : Exchange) (errand : Errand) (head : Response) (rule : BodyRule) (s : State) (q : Parts) → TakesAim aim e errand head rule s q → Stay (parts s) q
takes Own e errand head rule s q it = takes_own e errand head rule s (version_in errand head) q it
takes (Hole v from to) e errand head rule s q it = fills e errand head rule s q it
takes Through e errand head rule s q it = passes s.name.items e errand head rule (parts s) q it

takes_head : (n : ℕ) (e : Exchange) (errand : Errand) (head : Response) (rule : BodyRule) (s : State) (q : Parts) → TakesHead n e errand head rule s q → Stay (parts s) q
takes_head n e errand head rule s q it =
    let all : Stay (parts s) it.between = takes e.aim e errand head rule s it.between it.taken in
    becomes (parts s) (noted_body n it.between) q it.noted (record { clients = all.clients; astray = all.astray; refused = all.refused })

pub answers : (n : ℕ) (head : Response) (o : Option (Entry × BodyRule)) (s : State) (q : Parts) → AnswersAsk n head o s q → Stay (parts s) q
answers n head None s q it = same (parts s) q it
answers n head (Some a) s q it = takes_head n a.0.exchange a.0.errand head a.1 s q it
