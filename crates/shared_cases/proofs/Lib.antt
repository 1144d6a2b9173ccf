mod SendLemmas
