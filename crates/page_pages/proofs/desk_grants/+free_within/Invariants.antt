use Rattle.page_pages.proofs.desk_grants.+free_within.Given as goal

abbrev pub decreases-free_within : goal.decreases-free_within
decreases-free_within l = l.count
