-- The format that a media type names.
use Rattle.std.proofs.Common.{◌≡◌, ◌≢◌, ℕ, Bool, List, [], ◌∷◌, Option, Some, None, IfSome, find, bytes_eq, refl, ap, ◌∙◌, ◌⊎◌, inl, inr}
use Rattle.std.proofs.lemmas.Bool.{cases_Bool}
use Rattle.std.proofs.lemmas.Slice.Eq.{bytes_eq-Decides}
use Rattle.account_rules.specs.Formats.{media_type, formats}
use Rattle.account_rules.specs.declared.format.Format.{Format}
use Rattle.account_rules.specs.declared.format.Format.TheVariants.{OctetStream, Pdf, PostScript, Jpeg, PwgRaster, Urf, Plain}

abbrev is_among : Format → List Format → Type 0
is_among format [] = ⊥
is_among format (f ∷ more) = (format ≡ f) ⊎ is_among format more

among_all : (format : Format) → is_among format formats
among_all OctetStream = inl refl
among_all Pdf = inr (inl refl)
among_all PostScript = inr (inr (inl refl))
among_all Jpeg = inr (inr (inr (inl refl)))
among_all PwgRaster = inr (inr (inr (inr (inl refl))))
among_all Urf = inr (inr (inr (inr (inr (inl refl)))))
among_all Plain = inr (inr (inr (inr (inr (inr (inl refl))))))

module _ (text : List ℕ) where
  abbrev is_named : Format → Bool
  is_named format = bytes_eq text (media_type format)

  found : (fs : List Format) → IfSome (find is_named fs) (λ format. text ≡ media_type format)
  found [] = tt
  found (f ∷ fs) = elim (cases_Bool (is_named f)) [
    | inl is ↦ rw is ((bytes_eq-Decides text (media_type f)).0 is)
    | inr isnt ↦ rw isnt (found fs)
  ]

  missed : (fs : List Format) → find is_named fs ≡ None → (format : Format) → is_among format fs → text ≢ media_type format
  missed [] none format among = absurd among
  missed (f ∷ fs) none format among = elim (cases_Bool (is_named f)) [
    | inl is ↦ absurd (let some : ◌≡◌ {A = Option Format} (Some f) None = rw is at none in cc)
    | inr isnt ↦ elim among [
      | inl same ↦ λ e. let is = (bytes_eq-Decides text (media_type f)).1 (e ∙ ap media_type same) in cc
      | inr more ↦ missed fs (rw isnt at none) format more
    ]
  ]

  pub some_named : IfSome (find is_named formats) (λ format. text ≡ media_type format)
  some_named = found formats

  pub none_named : find is_named formats ≡ None → (format : Format) → text ≢ media_type format
  none_named none format = missed formats none format (among_all format)
