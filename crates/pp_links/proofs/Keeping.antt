-- Calls that open and close nothing, and that they are made on open connections.
use Rattle.std.proofs.Common.{◌≡◌, ◌≤◌, ℕ, true, List, [], ◌∷◌, Option, Some, None, Result, Ok, Err, eqb, ◌≢◌, ◌⊎◌, inl, inr, false, refl, sym, ◌∙◌, ap, subst, arith}
use Rattle.std.specs.Prelude.{is_some}
use Rattle.std.specs.List.{All}
use Rattle.std.proofs.lemmas.Bool.Decides.{eqb_tells}
use Rattle.std.proofs.lemmas.List.Folds.{Any-from_list_any}
use Rattle.pp_world.specs.declared.event.Got.{Got as Found}
use Rattle.pp_world.specs.declared.event.Got.TheVariants.{Bytes, End, NotYet}
use Rattle.pp_world.specs.declared.event.Side.{Side}
use Rattle.pp_world.specs.declared.event.Side.TheVariants.{Client, Origin}
use Rattle.pp_world.specs.declared.happening.Happening.{Happening}
use Rattle.pp_world.specs.declared.happening.Happening.TheVariants.{Undialled}
use Rattle.pp_world.specs.declared.note.Note.{Note}
use Rattle.pp_world.specs.declared.wire.WireFault.{WireFault}
use Rattle.pp_world.specs.Connections.{IsOpen, side_after, side_of}
use Rattle.pp_world.specs.Log.{Log, Told, Appends}
use Rattle.pp_world.specs.Wire.{by_side, note_happening, read_happening, write_happening}
use Rattle.pp_world.proofs.LogLemmas.{side_of-push}
use Rattle.pp_world.proofs.CallLemmas.{told_after, told_weaker}
use Rattle.pp_links.specs.Links.{Link, AreOpen, IsLinked, has_link, is_link}
use Rattle.pp_links.specs.Quiet.{is_quiet, GrowsQuietly}
use Rattle.pp_links.proofs.QuietLemmas.{quiet_one}

-- nothing is open
pub none_linked : (log : Option Log) (top : ℕ) → IsLinked log top []
none_linked log top = record {
  given = λ k d within. absurd (omega (arith, within));
  apart = λ i j d lt within. absurd (omega (arith, within));
  opened = record { at = λ l is k d within. absurd (omega (arith, within)) };
}

-- a happening that opens and closes nothing, and is quiet
record IsNeutral (h : Happening) : Type 0 where
  sides : (id : ℕ) (side : Option Side) → side_after id side h ≡ side
  quiet : is_quiet h ≡ true

neutral_linked : {old new : Option Log} (top now : ℕ) (links : List Link) (happening : Log → Happening) → ((l : Log) → IsNeutral (happening l)) → IsLinked old top links → Appends old new happening → now ≡ top → IsLinked new now links
neutral_linked top now links happening neutral held call same = record {
  given = subst (λ (t : ℕ). All (λ link. link.0 ≤ t) links) (sym same) held.given;
  apart = held.apart;
  opened = told_after (λ l. happening l ∷ []) (AreOpen links) (AreOpen links) held.opened call (λ l o k d within. side_of-push _ l (happening l) ∙ (neutral l).sides _ _ ∙ o k d within);
}

by_side_neutral : (side : Option Side) (client origin : Happening) → IsNeutral client → IsNeutral origin → IsNeutral (by_side side client origin)
by_side_neutral None client origin c o = o
by_side_neutral (Some Client) client origin c o = c
by_side_neutral (Some Origin) client origin c o = o

read_neutral : (id : ℕ) (result : Result Found WireFault) (buffer : List ℕ) (l : Log) → IsNeutral (read_happening id result buffer l)
read_neutral id (Ok (Bytes n)) buffer l = by_side_neutral (side_of id l) _ _ (record { sides = λ _ _. refl; quiet = refl }) (record { sides = λ _ _. refl; quiet = refl })
read_neutral id (Ok End) buffer l = by_side_neutral (side_of id l) _ _ (record { sides = λ _ _. refl; quiet = refl }) (record { sides = λ _ _. refl; quiet = refl })
read_neutral id (Ok NotYet) buffer l = record { sides = λ _ _. refl; quiet = refl }
read_neutral id (Err fault) buffer l = by_side_neutral (side_of id l) _ _ (record { sides = λ _ _. refl; quiet = refl }) (record { sides = λ _ _. refl; quiet = refl })

write_neutral : (id : ℕ) (bytes : List ℕ) (result : Result ℕ WireFault) (l : Log) → IsNeutral (write_happening id bytes result l)
write_neutral id bytes (Ok n) l = by_side_neutral (side_of id l) _ _ (record { sides = λ _ _. refl; quiet = refl }) (record { sides = λ _ _. refl; quiet = refl })
write_neutral id bytes (Err fault) l = by_side_neutral (side_of id l) _ _ (record { sides = λ _ _. refl; quiet = refl }) (record { sides = λ _ _. refl; quiet = refl })

pub read_linked : {old new : Option Log} (top now : ℕ) (links : List Link) (id : ℕ) (result : Result Found WireFault) (buffer : List ℕ) → IsLinked old top links → Appends old new (read_happening id result buffer) → now ≡ top → IsLinked new now links
read_linked top now links id result buffer held call same = neutral_linked top now links (read_happening id result buffer) (read_neutral id result buffer) held call same

pub read_quiet : {old new : Option Log} (id : ℕ) (result : Result Found WireFault) (buffer : List ℕ) → Appends old new (read_happening id result buffer) → GrowsQuietly old new
read_quiet id result buffer call = quiet_one (read_happening id result buffer) call (λ l. (read_neutral id result buffer l).quiet)

pub write_linked : {old new : Option Log} (top now : ℕ) (links : List Link) (id : ℕ) (bytes : List ℕ) (result : Result ℕ WireFault) → IsLinked old top links → Appends old new (write_happening id bytes result) → now ≡ top → IsLinked new now links
write_linked top now links id bytes result held call same = neutral_linked top now links (write_happening id bytes result) (write_neutral id bytes result) held call same

pub write_quiet : {old new : Option Log} (id : ℕ) (bytes : List ℕ) (result : Result ℕ WireFault) → Appends old new (write_happening id bytes result) → GrowsQuietly old new
write_quiet id bytes result call = quiet_one (write_happening id bytes result) call (λ l. (write_neutral id bytes result l).quiet)

pub note_linked : {old new : Option Log} (top now : ℕ) (links : List Link) (note : Note) → IsLinked old top links → Appends old new (λ l. note_happening note) → now ≡ top → IsLinked new now links
note_linked top now links note held call same = neutral_linked top now links (λ l. note_happening note) (λ l. record { sides = λ _ _. refl; quiet = refl }) held call same

pub undialled_linked : {old new : Option Log} (top now : ℕ) (links : List Link) (host : List ℕ) (port : ℕ) → IsLinked old top links → Appends old new (λ l. Undialled host port) → now ≡ top → IsLinked new now links
undialled_linked top now links host port held call same = neutral_linked top now links (λ l. Undialled host port) (λ l. record { sides = λ _ _. refl; quiet = refl }) held call same

-- one that is in the list is open

is_number : (n id : ℕ) → eqb n id ≡ true → n ≡ id
is_number n id is = by (eqb_tells n id)
  where
    by : ((eqb n id ≡ true) × (n ≡ id)) ⊎ ((eqb n id ≡ false) × (n ≢ id)) → n ≡ id
    by (inl at) = at.1
    by (inr away) = absurd (let bad : true ≡ false = sym is ∙ away.0 in cc)

pub link_open : {log : Option Log} (top : ℕ) (links : List Link) (id : ℕ) → IsLinked log top links → has_link id links ≡ true → Told log (IsOpen id)
link_open top links id held has =
    let found = Any-from_list_any (is_link id) links has in
    told_weaker (AreOpen links) (IsOpen id) held.opened (λ l o.
    ap (λ (n : ℕ). is_some (side_of n l)) (sym (is_number found.1.0 id found.4))
    ∙ ap is_some (subst (λ (x : Link). side_of x.0 l ≡ Some x.1) found.3 (o found.0 found.1 found.2)))
