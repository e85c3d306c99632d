-- What a copy in slices has so far: each name before the account whose turn it is was copied at some moment, and of each behind it there is nothing yet.
use Rattle.std.proofs.Common.{◌≡◌, ◌≢◌, ◌⊎◌, ℕ, true, false, List, [], ◌∷◌, Less, Equal, Greater, Ordering, is_lt, Option, Some, None, refl, sym, ap, subst, ◌∙◌, inl, inr}
use Rattle.std.specs.Ordering.{ordering_reverse}
use Rattle.std.specs.Cmp.Lexicographic.{nat_list_cmp_total}
use Rattle.std.specs.FinMap.{slice_cmp-IsAntisymmetric, nat_cmp-IsAntisymmetric}
use Rattle.std.proofs.lemmas.Bool.{cases_Bool, true≢false}
use Rattle.sqlite_rules.specs.Lists.{Has}
use Rattle.sqlite.specs.Effect.{Database}
use Rattle.account_rules.specs.Devices.{name_cmp}
use Rattle.rows_tables.specs.Accounts.{AgreeOnRows, HoldsNothing}
use Rattle.rows_tables.specs.Devices.{AgreeOnDevices}
use Rattle.rows_tables.proofs.AgreedRows.{still_holds}
use Rattle.rows_statements.specs.Alone.{OnlyAccount}
use Rattle.store_copy.specs.Copies.{AreCopies, CopiesDevices, HoldsNoDevice, IsCopyOf}
use Rattle.store_copy.specs.Slices.{ComesNext, CopiesFurther, CopiesSlice, CopiesSlices, GoesOn, HasCome, IsOfOne, StartsAgain, StaysUnderWay, is_before, is_behind, last_of, reached}
use Rattle.store_copy.specs.declared.slices.Progress.{Progress}
use Rattle.store_copy.specs.declared.slices.Progress.TheVariants.{UpTo, Anew, Within}
use Rattle.store_copy.proofs.NextNames.{is_less, never_itself}
use Rattle.store_copy.proofs.PartlyCopied.{not_there, partly_stays}

-- of a text the copy has what one of the sources has
abbrev pub Copied : (Seen : Database → Type 0) (name : List ℕ) (copy : Database) → Type 0
Copied Seen name copy = (source : Database) × Seen source × IsCopyOf name source copy

pub record Around (Seen : Database → Type 0) (Done : List ℕ → Type 0) (last : Option (List ℕ)) (copy : Database) : Type 0 where
  pub done : (name : List ℕ) → Done name → Copied Seen name copy
  pub rest : (name : List ℕ) → is_behind last name ≡ true → HoldsNothing copy name
  pub no_device : HoldsNoDevice copy

abbrev pub Before : List ℕ → List ℕ → Type 0
Before next name = is_before (Some next) name ≡ true

abbrev pub SoFar : (Seen : Database → Type 0) (progress : Progress) (source copy : Database) → Type 0
SoFar Seen (UpTo last) source copy = Around Seen (λ name. is_behind last name ≡ false) last copy
SoFar Seen (Anew name) source copy = Around Seen (Before name) (Some name) copy × HasCome (Anew name) source copy
SoFar Seen (Within name next job) source copy = Around Seen (Before name) (Some name) copy × HasCome (Within name next job) source copy

pub nothing_yet : (Seen : Database → Type 0) (source copy : Database) → ((name : List ℕ) → HoldsNothing copy name) → HoldsNoDevice copy → SoFar Seen (UpTo None) source copy
nothing_yet Seen source copy none no_device = record { done = λ name is. absurd (true≢false is); rest = λ name behind. none name; no_device = no_device }

-- ---- what a write of others leaves

still_copied : (Seen : Database → Type 0) (name : List ℕ) (a b : Database) → AgreeOnRows name a b → Copied Seen name a → Copied Seen name b
still_copied Seen name a b agree (source, seen, is) = (source, seen, λ room holds. still_holds name a b agree room (is room holds))

still_no_device : (a b : Database) → AgreeOnDevices a b → HoldsNoDevice a → HoldsNoDevice b
still_no_device a b same none = record { no_device = λ name. same.same_devices name ∙ none.no_device name; no_rate = λ name. same.same_rates name ∙ none.no_rate name }

before_is_other : (n name : List ℕ) → Before n name → name ≢ n
before_is_other n name before same = never_itself n (subst (λ (m : List ℕ). is_lt (name_cmp m n) ≡ true) same before)

behind_is_other : (n name : List ℕ) → is_behind (Some n) name ≡ true → name ≢ n
behind_is_other n name behind same = never_itself n (subst (λ (m : List ℕ). is_lt (name_cmp n m) ≡ true) same behind)

still_around : (Seen : Database → Type 0) (n : List ℕ) (a b : Database) → OnlyAccount n a b → Around Seen (Before n) (Some n) a → Around Seen (Before n) (Some n) b
still_around Seen n a b alone so = record {
  done = λ name before. still_copied Seen name a b (alone.others name (before_is_other n name before)) (so.done name before);
  rest = λ name behind. still_holds name a b (alone.others name (behind_is_other n name behind)) None (so.rest name behind);
  no_device = still_no_device a b alone.devices so.no_device;
}

-- ---- the account is done

-- what does not come behind it comes before it, or is it
before_or_it : (n name : List ℕ) → is_behind (Some n) name ≡ false → Before n name ⊎ (name ≡ n)
before_or_it n name not_behind = by (name_cmp n name) refl
  where
    by : (o : Ordering) → name_cmp n name ≡ o → Before n name ⊎ (name ≡ n)
    by Less e = absurd (true≢false (sym (ap is_lt e) ∙ not_behind))
    by Equal e = inr (sym (slice_cmp-IsAntisymmetric nat_cmp-IsAntisymmetric n name e))
    by Greater e = inl (ap is_lt (nat_list_cmp_total.antisymm name n ∙ ap ordering_reverse e))

is_done : (Seen : Database → Type 0) (n : List ℕ) (copy : Database) → Around Seen (Before n) (Some n) copy → Copied Seen n copy → Around Seen (λ name. is_behind (Some n) name ≡ false) (Some n) copy
is_done Seen n copy so here = record {
  done = λ name not_behind. elim (before_or_it n name not_behind) [ inl before ↦ so.done name before | inr same ↦ subst (λ m. Copied Seen m copy) (sym same) here ];
  rest = so.rest;
  no_device = so.no_device;
}

-- ---- one slice

-- the next account is found
is_found : (Seen : Database → Type 0) (last : Option (List ℕ)) (n : List ℕ) (source copy : Database) → Seen source → ComesNext last source (Some n) → SoFar Seen (UpTo last) source copy → SoFar Seen (Anew n) source copy
is_found Seen last n source copy seen next so = (
  record {
    done = λ name before. elim (cases_Bool (is_behind last name)) [
      | inl behind ↦ (source, seen, not_there name source copy (next.none_between name behind before) (so.rest name behind))
      | inr done ↦ so.done name done
    ];
    rest = λ name behind. so.rest name (further_behind last name behind next.behind);
    no_device = so.no_device;
  },
  so.rest n next.behind,
)
  where
    further_behind : (last : Option (List ℕ)) (name : List ℕ) → is_behind (Some n) name ≡ true → is_behind last n ≡ true → is_behind last name ≡ true
    further_behind None name behind next = refl
    further_behind (Some l) name behind next = ap is_lt (nat_list_cmp_total.trans l n name (is_less _ next) (is_less _ behind))

same_name : (a b : List ℕ) → Some a ≡ Some b → a ≡ b
same_name a b e = cc

module _ (Seen : Database → Type 0) (n : List ℕ) (source a b : Database) (seen : Seen source) where
  goes_further : (from to : Progress) → Around Seen (Before n) (Some n) a → HasCome from source a → CopiesFurther n from to source a b → SoFar Seen to source b
  goes_further from to so has copies = by to copies.same_account (copies.further has)
    where
      around : Around Seen (Before n) (Some n) b
      around = still_around Seen n a b copies.alone so

      by : (to : Progress) → reached to ≡ Some n → HasCome to source b → SoFar Seen to source b
      by (UpTo None) is come = let no : ⊥ = cc in absurd no
      by (UpTo (Some m)) is come =
          let same : m ≡ n = same_name m n is in
          subst (λ k. SoFar Seen (UpTo (Some k)) source b) (sym same) (is_done Seen n b around (subst (λ k. Copied Seen k b) same (source, seen, come)))
      by (Anew m) is come = (subst (λ k. Around Seen (Before k) (Some k) b) (sym (same_name m n is)) around, come)
      by (Within m next job) is come = (subst (λ k. Around Seen (Before k) (Some k) b) (sym (same_name m n is)) around, come)

pub slice_done : (Seen : Database → Type 0) (from to : Progress) (source a b : Database) → Seen source → SoFar Seen from source a → CopiesSlice from (Some to) source a b → SoFar Seen to source b
slice_done Seen (UpTo last) to source a b seen so (name, next, copies) =
    let begun = is_found Seen last name source a seen next so in
    goes_further Seen name source a b seen (Anew name) to begun.0 begun.1 copies
slice_done Seen (Anew name) to source a b seen so copies = goes_further Seen name source a b seen (Anew name) to so.0 so.1 copies
slice_done Seen (Within name next job) to source a b seen so copies = goes_further Seen name source a b seen (Within name next job) to so.0 so.1 copies

-- and the last one
module _ (Seen : Database → Type 0) (source a b : Database) (seen : Seen source) where
  all_done : (last : Option (List ℕ)) → SoFar Seen (UpTo last) source a → ComesNext last source None → CopiesDevices source a b → ((name : List ℕ) → Copied Seen name b) × AreCopies source b
  all_done last so next copies = (
    λ name. still_copied Seen name a b (copies.alone.accounts name) (elim (cases_Bool (is_behind last name)) [
      | inl behind ↦ (source, seen, not_there name source a (next.none_between name behind refl) (so.rest name behind))
      | inr done ↦ so.done name done
    ]),
    copies.copied so.no_device,
  )

  pub whole : (from : Progress) → SoFar Seen from source a → CopiesSlice from None source a b → ((name : List ℕ) → Copied Seen name b) × AreCopies source b
  whole (UpTo last) so (next, copies) = all_done last so next copies
  whole (Anew name) so none = absurd none
  whole (Within name next job) so none = absurd none

-- where one source alone was seen, it is that
pub whole_of_one : (from : Progress) (source a b : Database) → SoFar (λ db. db ≡ source) from source a → CopiesSlice from None source a b → ((name : List ℕ) → IsCopyOf name source b) × AreCopies source b
whole_of_one from source a b so slice =
    let both = whole (λ db. db ≡ source) source a b refl from so slice in (
      λ name. let it = both.0 name in subst (λ (db : Database). IsCopyOf name db b) it.1 it.2,
      both.1,
    )

-- ---- between two slices

begun_anew : (Seen : Database → Type 0) (from to : Progress) (source later a b : Database) → SoFar Seen from source a → StartsAgain from to a b → SoFar Seen to later b
begun_anew Seen (UpTo last) to source later a b so (same, is) = subst (λ p. SoFar Seen p later b) (sym same) (subst (λ db. SoFar Seen (UpTo last) later db) (sym is) so)
begun_anew Seen (Anew name) to source later a b so (same, is) = subst (λ p. SoFar Seen p later b) (sym same) (subst (λ db. SoFar Seen (Anew name) later db) (sym is) so)
begun_anew Seen (Within name next job) to source later a b so (same, forgets) =
    subst (λ p. SoFar Seen p later b) (sym same) (still_around Seen name a b forgets.alone so.0, forgets.gone)

stays : (Seen : Database → Type 0) (from : Progress) (source later copy : Database) → StaysUnderWay from source later → SoFar Seen from source copy → SoFar Seen from later copy
stays Seen (UpTo last) source later copy same so = so
stays Seen (Anew name) source later copy same so = so
stays Seen (Within name next job) source later copy same so = (so.0, partly_stays name next job source later copy same so.1)

gone_on : (Seen : Database → Type 0) (from to : Progress) (source later a b : Database) → SoFar Seen from source a → GoesOn from to source later a b → SoFar Seen to later b
gone_on Seen from to source later a b so (inl (same, is_same, is)) =
    subst (λ p. SoFar Seen p later b) (sym is_same) (subst (λ db. SoFar Seen from later db) (sym is) (stays Seen from source later a same so))
gone_on Seen from to source later a b so (inr starts) = begun_anew Seen from to source later a b so starts

-- ---- all slices

all_slices : (Seen : Database → Type 0) (from : Progress) (source : Database) (later : List Database) (a b : Database) → ((db : Database) → Has (source ∷ later) db → Seen db) → SoFar Seen from source a → CopiesSlices from source later a b
    → ((name : List ℕ) → Copied Seen name b) × AreCopies (last_of source later) b
all_slices Seen from source [] a b seen so slice = whole Seen source a b (seen source (inl refl)) from so slice
all_slices Seen from source (next ∷ later) a b seen so (to, again, done, begun, slice, goes, rest) =
    let after = slice_done Seen from to source a done (seen source (inl refl)) so slice in
    all_slices Seen again next later begun b (λ db there. seen db (inr there)) (gone_on Seen to again source next done begun after goes) rest

pub slices_copied : (source : Database) (later : List Database) (before after : Database) → ((name : List ℕ) → HoldsNothing before name) → HoldsNoDevice before → CopiesSlices (UpTo None) source later before after
    → ((name : List ℕ) → IsOfOne (source ∷ later) name after) × AreCopies (last_of source later) after
slices_copied source later before after none no_device slices =
    all_slices (Has (source ∷ later)) (UpTo None) source later before after (λ db there. there) (nothing_yet (Has (source ∷ later)) source before none no_device) slices
