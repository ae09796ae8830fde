-- Connections that are opened, by a dial or in a wait.
use Rattle.std.proofs.Common.{◌≡◌, ◌≢◌, ◌<◌, ◌≤◌, ◌⊎◌, inl, inr, ℕ, Bool, true, false, cond, List, [], ◌∷◌, ◌++◌, Option, Some, refl, sym, ◌∙◌, ap, subst, arith, eqb}
use Rattle.std.specs.Prelude.{suc, zero}
use Rattle.std.specs.List.{All, AllPairs}
use Rattle.std.proofs.lemmas.Bool.Decides.{eqb_tells}
use Rattle.std.proofs.lemmas.List.Elements.{All-append}
use Rattle.std.proofs.lemmas.List.Kept.{AllPairs-cons}
use Rattle.pp_world.specs.declared.event.Event.{Event}
use Rattle.pp_world.specs.declared.event.Event.TheVariants.{Stop, Tick, Accepted, Readable, Writable, Reached, Broken}
use Rattle.pp_world.specs.declared.event.Side.{Side}
use Rattle.pp_world.specs.declared.event.Side.TheVariants.{Client, Origin}
use Rattle.pp_world.specs.declared.event.Wants.{Wants}
use Rattle.pp_world.specs.declared.happening.Happening.{Happening}
use Rattle.pp_world.specs.declared.happening.Happening.TheVariants.{Waits, Dialled}
use Rattle.pp_world.specs.Connections.{side_after, side_of}
use Rattle.pp_world.specs.Log.{Log, Appends, AppendsAll}
use Rattle.pp_world.specs.Wire.{IsNumbered, top_after, wait_happenings}
use Rattle.pp_world.proofs.LogLemmas.{side_of-append, side_of-push}
use Rattle.pp_world.proofs.CallLemmas.{told_after}
use Rattle.pp_links.specs.Links.{Link, AreOpen, IsLinked}
use Rattle.pp_links.specs.Quiet.{GrowsQuietly}
use Rattle.pp_links.specs.Waits.{joined, newcomer_of}
use Rattle.pp_links.proofs.Closing.{unmoved}
use Rattle.pp_links.proofs.QuietLemmas.{quiet_one}

single : {X : Type 0} (P : X → Type 0) (x : X) → P x → All P (x ∷ [])
single P x holds zero d within = holds
single P x holds (suc k) d within = absurd (omega (arith, within))

pairs_push : {X : Type 0} (R : X → X → Type 0) (xs : List X) (y : X) → AllPairs R xs → All (λ x. R x y) xs → AllPairs R (xs ++ y ∷ [])
pairs_push R [] y pairs all = λ i j d lt within. absurd (omega (arith, lt, within))
pairs_push R (x ∷ xs) y pairs all =
    AllPairs-cons R x (xs ++ y ∷ [])
    (All-append (R x) xs (y ∷ []) (λ j d within. pairs 0 (suc j) d (omega arith) (omega (arith, within))) (single (R x) y (all 0 y (omega arith))))
    (pairs_push R xs y (λ i j d lt within. pairs (suc i) (suc j) d (omega (arith, lt)) (omega (arith, within))) (λ k d within. all (suc k) d (omega (arith, within))))

moved : (id : ℕ) (side now : Option Side) → cond (eqb id id) now side ≡ now
moved id side now = by (eqb_tells id id)
  where
    by : ((eqb id id ≡ true) × (id ≡ id)) ⊎ ((eqb id id ≡ false) × (id ≢ id)) → cond (eqb id id) now side ≡ now
    by (inl at) = ap (λ (b : Bool). cond b now side) at.0
    by (inr away) = absurd (away.1 refl)

-- what is added to the log opens this one, and leaves the others
pub record Opens (c : ℕ) (side : Side) (added : Log) : Type 0 where
  pub this : (l : Log) → side_of c (l ++ added) ≡ Some side
  pub others : (l : Log) (n : ℕ) → c ≢ n → side_of n (l ++ added) ≡ side_of n l

join_linked : {old new : Option Log} (top now : ℕ) (links : List Link) (c : ℕ) (side : Side) (added : Log) → Opens c side added → IsLinked old top links → AppendsAll old new (λ l. added) → top < c → now ≡ c → IsLinked new now (links ++ (c, side) ∷ [])
join_linked top now links c side added opens held call above is = record {
  given = All-append (λ (x : Link). x.0 ≤ now) links ((c, side) ∷ []) (λ k d within. omega (arith, above, is, held.given k d within)) (single (λ (x : Link). x.0 ≤ now) (c, side) (omega (arith, is)));
  apart = pairs_push (λ (one other : Link). one.0 ≢ other.0) links (c, side) held.apart (λ k d within e. omega (arith, above, e, held.given k d within));
  opened = told_after (λ l. added) (AreOpen links) (AreOpen (links ++ (c, side) ∷ [])) held.opened call (λ l o.
      All-append (λ (x : Link). side_of x.0 (l ++ added) ≡ Some x.1) links ((c, side) ∷ [])
      (λ k d within. opens.others l _ (λ e. omega (arith, above, e, held.given k d within)) ∙ o k d within)
      (single (λ (x : Link). side_of x.0 (l ++ added) ≡ Some x.1) (c, side) (opens.this l)));
}

dial_opens : (k : ℕ) (host : List ℕ) (port : ℕ) → Opens k Origin (Dialled k host port ∷ [])
dial_opens k host port = record {
  this = λ l. side_of-push k l (Dialled k host port) ∙ moved k (side_of k l) (Some Origin);
  others = λ l n other. side_of-push n l (Dialled k host port) ∙ unmoved k n (side_of n l) (Some Origin) other;
}

pub dial_linked : {old new : Option Log} (top now : ℕ) (links : List Link) (k : ℕ) (host : List ℕ) (port : ℕ) → IsLinked old top links → Appends old new (λ l. Dialled k host port) → top < k → now ≡ k → IsLinked new now (links ++ (k, Origin) ∷ [])
dial_linked top now links k host port held call above is = join_linked top now links k Origin (Dialled k host port ∷ []) (dial_opens k host port) held call above is

pub dialled_quiet : {old new : Option Log} (k : ℕ) (host : List ℕ) (port : ℕ) → Appends old new (λ l. Dialled k host port) → GrowsQuietly old new
dialled_quiet k host port call = quiet_one (λ l. Dialled k host port) call (λ l. refl)

-- a wait

pub wait_opens : (wants : Wants) (c : ℕ) → Opens c Client (wait_happenings wants (Accepted c))
wait_opens wants c = record {
  this = λ l. side_of-append c l (wait_happenings wants (Accepted c)) ∙ moved c (side_of c l) (Some Client);
  others = λ l n other. side_of-append n l (wait_happenings wants (Accepted c)) ∙ unmoved c n (side_of n l) (Some Client) other;
}

wait_linked : {old new : Option Log} (top now : ℕ) (links : List Link) (wants : Wants) (h : Happening) → ((n : ℕ) (side : Option Side) → side_after n side h ≡ side) → IsLinked old top links → AppendsAll old new (λ l. Waits wants ∷ h ∷ []) → now ≡ top → IsLinked new now links
wait_linked top now links wants h still held call same = record {
  given = subst (λ (t : ℕ). All (λ link. link.0 ≤ t) links) (sym same) held.given;
  apart = held.apart;
  opened = told_after (λ l. Waits wants ∷ h ∷ []) (AreOpen links) (AreOpen links) held.opened call (λ l o k d within. side_of-append _ l (Waits wants ∷ h ∷ []) ∙ still _ _ ∙ o k d within);
}

event_linked : {old new : Option Log} (top now : ℕ) (links : List Link) (wants : Wants) (event : Event) → IsLinked old top links → AppendsAll old new (λ l. wait_happenings wants event) → IsNumbered top event → now ≡ top_after top event → IsLinked new now (joined (newcomer_of event) links)
event_linked top now links wants Stop held call number is = wait_linked top now links wants _ (λ n side. refl) held call is
event_linked top now links wants (Tick seconds) held call number is = wait_linked top now links wants _ (λ n side. refl) held call is
event_linked top now links wants (Readable id) held call number is = wait_linked top now links wants _ (λ n side. refl) held call is
event_linked top now links wants (Writable id) held call number is = wait_linked top now links wants _ (λ n side. refl) held call is
event_linked top now links wants (Reached k) held call number is = wait_linked top now links wants _ (λ n side. refl) held call is
event_linked top now links wants (Broken k) held call number is = wait_linked top now links wants _ (λ n side. refl) held call is
event_linked top now links wants (Accepted c) held call number is = join_linked top now links c Client (wait_happenings wants (Accepted c)) (wait_opens wants c) held call number.above is

pub next_linked : {old new : Option Log} (top now : ℕ) (links : List Link) (wants : Wants) (event : Event) (newcomer : Option ℕ) → newcomer_of event ≡ newcomer → IsLinked old top links → AppendsAll old new (λ l. wait_happenings wants event) → IsNumbered top event → now ≡ top_after top event → IsLinked new now (joined newcomer links)
next_linked {old} {new} top now links wants event newcomer whose held call number is = subst (λ (o : Option ℕ). IsLinked new now (joined o links)) whose (event_linked top now links wants event held call number is)
