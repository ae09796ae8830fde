-- Of the law: attempts that count anew twice count anew once; and asks are given up alike before an entry is noted as gone and behind it.
use Rattle.std.proofs.Common.{◌≡◌, refl, ap, ap₂, ◌∙◌, Bool, true, false, List, [], ◌∷◌, find, map, Option, Some, None}
use Rattle.pp_law.specs.Connections.{anew}
use Rattle.pp_law.specs.Followers.{give_up_asks}
use Rattle.pp_law.specs.Lists.{Bytes}
use Rattle.pp_law.specs.Replies.{is_regained, regained, regained_by}
use Rattle.pp_law.specs.State.{State, Client, Course, Entry, AskTooLong, OutOfTries, RowRefused, Trying}
use Rattle.pp_law.specs.Store.{note_gone, remove_entry}
use Rattle.pp_law.specs.Table.{is_entry_of}
use Rattle.pp_turns_law.specs.Regains.{RegainsOnce}
use Rattle.pp_turns_law.specs.Useless.{GivenUpBesideGone}

-- ---- attempts

anew_once : (course : Course) → anew (anew course) ≡ anew course
anew_once (Trying n) = refl
anew_once OutOfTries = refl
anew_once AskTooLong = refl
anew_once RowRefused = refl

once_by : (s : State) (c : Client) (held : Bool) → is_regained s c ≡ held
    → regained_by s (elim held as (λ x. Client) [ true ↦ record c { course = anew c.course } | false ↦ c ]) ≡ (elim held as (λ x. Client) [ true ↦ record c { course = anew c.course } | false ↦ c ])
once_by s c true is =
    ap (λ (b : Bool). elim b as (λ x. Client) [ true ↦ record c { course = anew (anew c.course) } | false ↦ record c { course = anew c.course } ]) is ∙ ap (λ (course : Course). record c { course = course }) (anew_once c.course)
once_by s c false is = ap (λ (b : Bool). elim b as (λ x. Client) [ true ↦ record c { course = anew c.course } | false ↦ c ]) is

all_once : (s : State) (cs : List Client) → map (regained_by s) (map (regained_by s) cs) ≡ map (regained_by s) cs
all_once s [] = refl
all_once s (c ∷ cs) = ap₂ (λ (d : Client) (ds : List Client). d ∷ ds) (once_by s c (is_regained s c) refl) (all_once s cs)

pub regains_once : RegainsOnce
unfolding regained
regains_once s = ap (λ (cs : List Client). record s { clients = cs }) (all_once s s.clients)

-- ---- asks

pub gives_up_beside : GivenUpBesideGone
unfolding give_up_asks note_gone remove_entry
gives_up_beside key s = by (find (is_entry_of key) s.entries)
  where
    by : (o : Option Entry) → give_up_asks (elim o as (λ t. State) [ None ↦ s | Some e ↦ remove_entry e s ]) ≡ (elim o as (λ t. State) [ None ↦ give_up_asks s | Some e ↦ remove_entry e (give_up_asks s) ])
    by None = refl
    by (Some e) = refl
