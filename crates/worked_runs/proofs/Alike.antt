-- Two runs over the same words and files end alike.
use Rattle.std.proofs.Common.{◌≡◌, ◌⊎◌, inl, inr, subst}
use Rattle.rg_top.specs.End.{HasStatus}
use Rattle.rg_top.specs.Ends.{Answers}
use Rattle.rg_top.specs.One.{OneAnswer}
use Rattle.rg_top.specs.Run.{Run, Says, Ends, IsMishap, IsDecided, IsTheOne}
use Rattle.rg_top.specs.declared.status.Status.{Status}
use Rattle.rg_top.specs.declared.status.Status.TheVariants.{Done, No, Usage, File, TooWide, ReadFault, WriteFault, NoMemory}
use Rattle.rg_top.proofs.Terms.{same_status}

-- a run that ends without a mishap says what is due
said : (run : Run) (s : Status) → Ends run s → IsMishap s ⊎ Says run s
said run Done ends = inr ends
said run No ends = inr ends
said run (Usage _) ends = inr ends
said run (File _) ends = inr ends
said run (TooWide _) ends = inr ends
said run ReadFault ends = inl tt
said run WriteFault ends = inl tt
said run NoMemory ends = inl tt

pub alike : OneAnswer → (first second : Run) (s s' : Status) → second.words ≡ first.words → second.files ≡ first.files → IsDecided first.words first.files
    → Ends first s → Ends second s' → IsMishap s ⊎ (IsMishap s' ⊎ IsTheOne s s')
alike one first second s s' words files decided ends ends' = go (said first s ends) (said second s' ends')
  where
    go : IsMishap s ⊎ Says first s → IsMishap s' ⊎ Says second s' → IsMishap s ⊎ (IsMishap s' ⊎ IsTheOne s s')
    go (inl mishap) _ = inl mishap
    go (inr _) (inl mishap) = inr (inl mishap)
    go (inr a) (inr b) =
        let same_words = subst (λ w. Answers w second.files b.end) words b.due in
        let same_files = subst (λ f. Answers first.words f b.end) files same_words in
        let same = one.once first.words first.files b.end a.end decided same_files a.due in
        inr (inr (same_status a.end s' s (subst (λ e. HasStatus e s') same b.has) a.has))
