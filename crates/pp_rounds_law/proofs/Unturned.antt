-- Where nobody is turned away, decisions alone come.
use Rattle.std.proofs.Common.{◌≡◌, sym, subst, ap, ◌∙◌, ℕ, Bool, List, [], ◌++◌, Option, None}
use Rattle.pp_desk.specs.declared.desk.Desk.{Desk}
use Rattle.pp_links.specs.Links.{Link}
use Rattle.pp_proxy.specs.Deciding.{Decides, DecidesAll, TurnsAway, turned_links, turned_log}
use Rattle.pp_proxy.specs.Moving.{Moving}
use Rattle.pp_store.specs.Kept.{KeptMap}
use Rattle.pp_world.specs.Log.{Log}

same_moving : (x y : Moving) → y.desk ≡ x.desk → y.links ≡ x.links → y.top ≡ x.top → y ≡ x
same_moving x y desk links top =
    ap (λ (d : Desk). let m : Moving = record { desk = d; links = y.links; top = y.top } in m) desk
    ∙ ap (λ (ls : List Link). let m : Moving = record { desk = x.desk; links = ls; top = y.top } in m) links
    ∙ ap (λ (n : ℕ). let m : Moving = record { desk = x.desk; links = x.links; top = n } in m) top

same_desk : (d : Desk) → d.turned_away ≡ None → record d { turned_away = None } ≡ d
same_desk d away = ap (λ (o : Option ℕ). let e : Desk = record d { turned_away = o } in e) (sym away)

unturned : (x y : Moving) (log : Log) → x.desk.turned_away ≡ None → TurnsAway x log y → (log ≡ []) × (y ≡ x)
unturned x y log away turns = (
  turns.log_is ∙ ap (λ (o : Option ℕ). turned_log o x.links) away,
  same_moving x y (turns.desk ∙ same_desk x.desk away) (turns.links ∙ ap (λ (o : Option ℕ). turned_links o x.links) away) turns.top,
)

pub record DecidesAlone (shelf : KeptMap) (x : Moving) (log : Log) (y : Moving) : Type 0 where
  pub any : Bool
  pub decides : Decides 65536 shelf x log y any

pub alone : (shelf : KeptMap) (x y : Moving) (log : Log) (any : Bool) → x.desk.turned_away ≡ None → DecidesAll shelf x log y any → DecidesAlone shelf x log y
alone shelf x y log any away all =
    let both : (all.first ≡ []) × (all.between ≡ x) = unturned x all.between all.first away all.turned in
    record {
      any = all.later;
      decides =
          subst (λ (hs : Log). Decides 65536 shelf x hs y all.later) (sym (all.log_is ∙ ap (λ (hs : Log). hs ++ all.rest) both.0))
          (subst (λ (z : Moving). Decides 65536 shelf z all.rest y all.later) both.1 all.decides);
    }
