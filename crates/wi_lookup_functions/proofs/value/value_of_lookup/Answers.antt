use Rattle.wi_lookup_functions.proofs.value.value_of_lookup.Goals as goal

pub returns-in-CountIf-clause-done : goal.returns-in-CountIf-clause-done
returns-in-CountIf-clause-done g c = rw c.in-CountIf.is c.count_if_value.ensures.done

pub returns-in-HLookup-clause-done : goal.returns-in-HLookup-clause-done
returns-in-HLookup-clause-done g c = rw c.in-HLookup.is c.h_lookup_value.ensures.done

pub returns-in-Index-clause-done : goal.returns-in-Index-clause-done
returns-in-Index-clause-done g c = rw c.in-Index.is c.index_value.ensures.done

pub returns-in-Ok-clause-done : goal.returns-in-Ok-clause-done
returns-in-Ok-clause-done g c = rw c.in-Match.is c.in-Ok.ensures.done

pub returns-in-SumIf-clause-done : goal.returns-in-SumIf-clause-done
returns-in-SumIf-clause-done g c = rw c.in-SumIf.is c.sum_if_value.ensures.done

pub returns-in-SumProduct-clause-done : goal.returns-in-SumProduct-clause-done
returns-in-SumProduct-clause-done g c = rw c.in-SumProduct.is c.sum_product_value.ensures.done

pub returns-in-VLookup-clause-done : goal.returns-in-VLookup-clause-done
returns-in-VLookup-clause-done g c = rw c.in-VLookup.is c.v_lookup_value.ensures.done
