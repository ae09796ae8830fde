-- A client that is turned away, and what a wait adds to the log.
use Rattle.std.proofs.Common.{◌≡◌, ◌≢◌, ◌≤◌, ℕ, List, [], ◌∷◌, ◌++◌, Option, Some, None, refl, ◌∙◌, ap, subst, arith}
use Rattle.std.specs.Prelude.{is_some, slice_index_or, IsTrue}
use Rattle.pp_world.specs.declared.event.Event.{Event}
use Rattle.pp_world.specs.declared.event.Event.TheVariants.{Stop, Tick, Accepted, Readable, Writable, Reached, Broken}
use Rattle.pp_world.specs.declared.event.Side.{Side}
use Rattle.pp_world.specs.declared.event.Side.TheVariants.{Client}
use Rattle.pp_world.specs.declared.event.Wants.{Wants}
use Rattle.pp_world.specs.declared.happening.Happening.TheVariants.{Shut, Dropped}
use Rattle.pp_world.specs.Connections.{IsOpen, side_of}
use Rattle.pp_world.specs.Log.{Log, Told, Appends, AppendsAll}
use Rattle.pp_world.specs.Wire.{IsNumbered, by_side, close_happening, is_wanted, top_after, wait_happenings}
use Rattle.pp_world.proofs.LogLemmas.{side_of-append}
use Rattle.pp_world.proofs.CallLemmas.{appends_then, told_after}
use Rattle.pp_links.specs.Links.{Link, AreOpen, IsLinked, max_links}
use Rattle.pp_links.specs.Quiet.{GrowsBy, GrowsQuietly, IsQuiet}
use Rattle.pp_links.specs.Waits.{TurnsAway, WaitsOnce, newcomer_of}
use Rattle.pp_links.proofs.Closing.{unmoved}
use Rattle.pp_links.proofs.Opening.{wait_opens}
use Rattle.pp_links.proofs.QuietLemmas.{grows_exactly, grows_then, quiet_none}

newcomer_is : (event : Event) (c : ℕ) → newcomer_of event ≡ Some c → event ≡ Accepted c
newcomer_is Stop c is = absurd (let bad : None ≡ Some c = is in cc)
newcomer_is (Tick seconds) c is = absurd (let bad : None ≡ Some c = is in cc)
newcomer_is (Readable id) c is = absurd (let bad : None ≡ Some c = is in cc)
newcomer_is (Writable id) c is = absurd (let bad : None ≡ Some c = is in cc)
newcomer_is (Reached k) c is = absurd (let bad : None ≡ Some c = is in cc)
newcomer_is (Broken k) c is = absurd (let bad : None ≡ Some c = is in cc)
newcomer_is (Accepted n) c is = let same : n ≡ c = cc in ap (λ (m : ℕ). Accepted m) same

pub newcomer_open : {old new : Option Log} (wants : Wants) (event : Event) (c : ℕ) → newcomer_of event ≡ Some c → AppendsAll old new (λ l. wait_happenings wants event) → Told new (IsOpen c)
newcomer_open {old} {new} wants event c new_is call = record {
  at = λ l is.
      let was = call.was l is in
      ap (λ (log : Log). is_some (side_of c log)) (was.2 ∙ ap (λ (e : Event). was.0 ++ wait_happenings wants e) (newcomer_is event c new_is))
      ∙ ap is_some ((wait_opens wants c).this was.0);
}

away_told : {old mid new : Option Log} (wants : Wants) (c : ℕ) → AppendsAll old mid (λ l. wait_happenings wants (Accepted c)) → Appends mid new (close_happening c) → AppendsAll old new (λ l. wait_happenings wants (Accepted c) ++ Shut c ∷ [])
away_told wants c wait shut = record {
  was = λ l is.
      let was = (appends_then (λ l. wait_happenings wants (Accepted c)) (λ l. close_happening c l ∷ []) wait shut).was l is in
      (was.0, was.1, was.2 ∙ ap (λ (side : Option Side). was.0 ++ (wait_happenings wants (Accepted c) ++ by_side side (Shut c) (Dropped c) ∷ [])) ((wait_opens wants c).this was.0));
}

pub turned_away : {old mid new : Option Log} (count before between now : ℕ) (wants : Wants) (event : Event) (c : ℕ) → newcomer_of event ≡ Some c → max_links ≤ count → IsTrue (is_wanted wants event) → IsNumbered before event → between ≡ top_after before event → AppendsAll old mid (λ l. wait_happenings wants event) → Appends mid new (close_happening c) → now ≡ between → TurnsAway count wants old new before now
turned_away {old} {mid} count before between now wants event c new_is full wanted number top wait shut same =
    let is = newcomer_is event c new_is in
    record {
      client = c;
      full = full;
      wanted = subst (λ (e : Event). IsTrue (is_wanted wants e)) is wanted;
      number = subst (λ (e : Event). IsNumbered before e) is number;
      top = same ∙ top ∙ ap (top_after before) is;
      told = away_told wants c (subst (λ (e : Event). AppendsAll old mid (λ l. wait_happenings wants e)) is wait) shut;
    }

pub away_linked : {old new : Option Log} (count top now : ℕ) (links : List Link) (wants : Wants) → IsLinked old top links → TurnsAway count wants old new top now → IsLinked new now links
away_linked count top now links wants held away = record {
  given = λ k d within. omega (arith, away.number.above, away.top, held.given k d within);
  apart = held.apart;
  opened = told_after (λ l. wait_happenings wants (Accepted away.client) ++ Shut away.client ∷ []) (AreOpen links) (AreOpen links) held.opened away.told (λ l o k d within.
      let other : away.client ≢ (slice_index_or links k d).0 = λ e. omega (arith, away.number.above, e, held.given k d within) in
      side_of-append _ l (wait_happenings wants (Accepted away.client) ++ Shut away.client ∷ [])
      ∙ unmoved away.client _ _ None other
      ∙ unmoved away.client _ _ (Some Client) other
      ∙ o k d within);
}

pub grows_away : {old mid new : Option Log} (count before between : ℕ) (wants : Wants) (away : TurnsAway count wants old mid before between) → GrowsQuietly mid new → GrowsBy (wait_happenings wants (Accepted away.client)) IsQuiet old new
grows_away count before between wants away rest = grows_then (wait_happenings wants (Accepted away.client)) (grows_exactly (wait_happenings wants (Accepted away.client)) (Shut away.client ∷ []) away.told refl) rest

pub waits_away : {old new : Option Log} (count before now : ℕ) (wants : Wants) → TurnsAway count wants old new before now → WaitsOnce wants old new
waits_away {old} {new} count before now wants away = record {
  event = Accepted away.client;
  wanted = away.wanted;
  grows = grows_away count before now wants away (quiet_none new);
}

pub waits_for : {old new : Option Log} (wants : Wants) (event : Event) → IsTrue (is_wanted wants event) → AppendsAll old new (λ l. wait_happenings wants event) → WaitsOnce wants old new
waits_for wants event wanted call = record {
  event = event;
  wanted = wanted;
  grows = grows_exactly (wait_happenings wants event) [] call refl;
}
