-- The filters of the code as the rules have them.
use Rattle.model.specs.Filter.{Filters as ModelFilters}
use Rattle.frame.specs.declared.filter.Filters.{Filters}

abbrev pub addresses : Filters → ModelFilters
addresses f = record { filter = f.filter; filter1 = f.filter1; filter2 = f.filter2 }
